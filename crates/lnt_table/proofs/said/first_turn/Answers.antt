use Rattle.lnt_spans.proofs.PositionLaws.{below_is_at_most}
use Rattle.lnt_table.proofs.SaidLemmas.{still_later}
use Rattle.lnt_table.proofs.said.first_turn.Goals as goal

pub first_said-requires : goal.first_said-requires
first_said-requires g c = below_is_at_most c.requires

pub returns-then-is_said-clause-turns : goal.returns-then-is_said-clause-turns
returns-then-is_said-clause-turns g c = rw c.if-is_said.true (c.in_ok-to.ensures.unsaid, c.in_ok-to.ensures.said)

pub returns-then-is_said-clause-kept : goal.returns-then-is_said-clause-kept
returns-then-is_said-clause-kept g c =
    still_later g.S.SpanSource.to_come _ _ _ _ _ _ c.in_ok-to.to c.args.high c.in_ok-to.ensures.kept c.in_ok-to.ensures.past

pub returns-clause-turns : goal.returns-clause-turns
returns-clause-turns g c = rw c.if-is_said.false (c.in_ok-to-2.ensures.said, c.in_ok-to-2.ensures.unsaid)
