use Rattle.std.proofs.Common.{arith, subst}
use Rattle.lnt_spans.specs.declared.position.Position.{Position}
use Rattle.lnt_spans.specs.Positions.{IsAtMost, IsBelow}
use Rattle.lnt_spans.proofs.DerivedOrder.{at_most_from_not_lt, below_from_lt}
use Rattle.lnt_sequences.proofs.CheckpointLemmas.{found_above, found_last, checkpoint_after}
use Rattle.lnt_sequences.proofs.checkpoints.Checkpoint.go_on.Goals as goal

pub loop-init : goal.loop-init
loop-init c = record {
  in_rows = λ rows is. rw c.fork-after.ensures is;
  not_above = c.requires.not_above;
  fewer = rw c.fork-after.ensures (omega arith);
}

pub loop-preserved : goal.loop-preserved
loop-preserved c = record {
  in_rows = λ rows is.
      checkpoint_after rows c.loop.after c.next.new.self c.loop.self.last c.in-Some.row (c.loop.invariant.in_rows rows is)
      c.in-Some.ensures.steps;
  not_above = subst (λ (q : Position). IsAtMost q c.args.position) c.position_of.ensures (at_most_from_not_lt c.if-lt.ensures);
  fewer = let less = (c.in-Some.ensures.goes.on tt).2 in omega (arith, less, c.loop.invariant.fewer);
}

pub returns-in_default-clause-goes_on : goal.returns-in_default-clause-goes_on
returns-in_default-clause-goes_on c rows is ordered =
    found_last c.args.position rows c.loop.after c.next.new.self c.loop.self.last (c.loop.invariant.in_rows rows is)
    c.loop.invariant.not_above c.in_default.ensures.steps

pub returns-then-lt-clause-goes_on : goal.returns-then-lt-clause-goes_on
returns-then-lt-clause-goes_on c rows is ordered =
    found_above c.args.position rows c.loop.after c.next.new.self c.loop.self.last c.in-Some.row (c.loop.invariant.in_rows rows is)
    c.loop.invariant.not_above c.in-Some.ensures.steps
    (subst (λ (q : Position). IsBelow c.args.position q) c.position_of.ensures (below_from_lt c.if-lt.ensures)) ordered

pub returns-clause-goes_on : goal.returns-clause-goes_on
returns-clause-goes_on c rows is = c.loop.invariant.in_rows rows is

pub returns-clause-fewer : goal.returns-clause-fewer
returns-clause-fewer c = λ same. omega (arith, c.requires.some, c.loop.invariant.fewer)
