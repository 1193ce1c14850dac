use Rattle.std.proofs.Common.{arith}
use Rattle.lnt_spans.proofs.DerivedOrder.{at_most_from_not_lt}
use Rattle.lnt_spans.proofs.PositionLaws.{at_most_itself}
use Rattle.lnt_table.proofs.SaidLemmas.{passed_on}
use Rattle.lnt_table.proofs.said.SequenceSpans.pass_to.Goals as goal

pub loop-self-preserved : goal.loop-self-preserved
loop-self-preserved g c = record {
  kept = λ answers h. passed_on g.S.SpanSource.to_come _ c.args.at answers (c.loop-self.invariant.kept answers h) _ c.in-Some.span c.args.at
      c.in-Some.is (at_most_from_not_lt c.if-lt.ensures) (at_most_itself c.args.at) c.pass.ensures.gives;
  fewer = omega (arith, c.pass.ensures.fewer, c.loop-self.invariant.fewer);
}
