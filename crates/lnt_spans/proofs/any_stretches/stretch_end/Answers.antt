use Rattle.std.proofs.Common.{arith}
use Rattle.lnt_spans.proofs.any_stretches.stretch_end.Goals as goal

pub loop-preserved : goal.loop-preserved
loop-preserved g c = record {
  sound = c.in_ok-goes_on.ensures.sound;
  told = λ f f' told h. c.in_ok-goes_on.ensures.given f f' told (c.loop.invariant.told f f' told h);
  going = λ f f' told last h going. rw c.if-branch.true at c.in_ok-goes_on.ensures.on f f' told last (c.loop.invariant.told f f' told h)
      (c.loop.invariant.going f f' told last h going);
  stays = λ f f' told h. c.in_ok-goes_on.ensures.until f f' told (c.loop.invariant.told f f' told h) (c.loop.invariant.stays f f' told h);
  fewer = let fewer = rw c.if-branch.true at c.in_ok-goes_on.ensures.fewer in omega (arith, fewer, c.loop.invariant.fewer);
}

pub returns-clause-end : goal.returns-clause-end
returns-clause-end g c f f' told last h going =
    rw c.if-branch.false at c.in_ok-goes_on.ensures.on f f' told last (c.loop.invariant.told f f' told h)
    (c.loop.invariant.going f f' told last h going)

pub goes_on-requires-clause-given : goal.goes_on-requires-clause-given
goes_on-requires-clause-given g c =
    let h = c.requires.given in
    (h.0, h.1, h.2, c.loop.invariant.told h.0 h.1 h.2 h.3, c.loop.invariant.stays h.0 h.1 h.2 h.3)
