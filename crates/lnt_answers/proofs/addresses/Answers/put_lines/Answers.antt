use Rattle.std.proofs.Common.{◌∙◌, ◌<◌, arith, length, refl, rules}
use Rattle.lnt_answers.proofs.AddressLemmas.{first_more, first_none}
use Rattle.lnt_answers.proofs.addresses.Answers.put_lines.Goals as goal

pub loop-next-init : goal.loop-next-init
loop-next-init c = record {
  same = refl;
  index = refl;
  shorter = search rules;
  printed = first_none _ _ _;
}

pub loop-next-preserved : goal.loop-next-preserved
loop-next-preserved c =
    let before = c.loop-next.invariant in
    let printed = rw (c.in-Some.is, before.same, before.index) at c.in_ok-next.ensures.printed in
    let less : length c.in-Some.next.now < length c.loop-next.rest.now = rw c.in-Some.is at c.in_ok-next.ensures.shorter in
    record {
      same = c.in_ok-next.ensures.same ∙ before.same;
      index = c.put_next.ensures.index ∙ before.index;
      shorter = omega (arith, before.shorter, less);
      printed = first_more before.printed printed;
    }

pub returns-clause-printed : goal.returns-clause-printed
returns-clause-printed c =
    let before = c.loop-next.invariant in
    let printed = rw (c.in_default.is, before.same, before.index) at c.in_ok-next.ensures.printed in
    first_more before.printed printed
