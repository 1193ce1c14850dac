use Rattle.lnt_spans.specs.declared.position.Position.{Position}
use Rattle.lnt_spans.specs.Positions.{IsAtMost, IsBelow}
use Rattle.lnt_table.specs.Said.{OneSays, StillSay, all_left}
use Rattle.lnt_table.proofs.said.first_unsaid.Given as goal

abbrev pub invariant-loop-to : goal.invariant-loop-to
invariant-loop-to g l = record {
  past : IsAtMost l.fn.low l.at;
  below : IsBelow l.at l.fn.high;
  still : StillSay g.S.SpanSource.to_come (g.A.TableAnswer.tell l.answer) (g.A.TableAnswer.said l.answer) l.fn.sequences l.sequences
      l.fn.low l.at l.fn.high;
  said : (p : Position) → IsAtMost l.fn.low p → IsBelow p l.at
      → OneSays g.S.SpanSource.to_come (g.A.TableAnswer.tell l.answer) (g.A.TableAnswer.said l.answer) l.fn.sequences l.fn.low p;
}

abbrev pub decreases-loop-to : goal.decreases-loop-to
decreases-loop-to g l = all_left g.S.SpanSource.left l.sequences
