use Rattle.std.proofs.Common.{◌≡◌, ◌<◌, ◌≤◌, ℕ, Option, get_or, length}
use Rattle.lnt_spans.specs.declared.answer.Answer.{Answer}
use Rattle.lnt_spans.specs.declared.position.Position.{Position}
use Rattle.lnt_spans.specs.Positions.{IsAtMost, IsBelow}
use Rattle.lnt_table.specs.declared.said.SequenceSpans.{SequenceSpans}
use Rattle.lnt_table.specs.Said.{OneSays, Says, SaysFrom, StillSay}
use Rattle.lnt_table.proofs.said.first_said.Given as goal

abbrev pub invariant-loop-sequence : goal.invariant-loop-sequence
invariant-loop-sequence g l = record {
  past : IsAtMost l.fn.low l.to;
  upto : IsAtMost l.to l.fn.high;
  count : length l.sequences ≡ length l.fn.sequences;
  ahead : (k : ℕ) (d : SequenceSpans _) → l.sequence-index ≤ k → get_or l.sequences k d ≡ get_or l.fn.sequences k d;
  kept : StillSay g.S.SpanSource.to_come (g.A.TableAnswer.tell l.answer) (g.A.TableAnswer.said l.answer) l.fn.sequences l.sequences
      l.fn.low l.fn.low l.fn.high;
  unsaid : (k : ℕ) (d : SequenceSpans _) (whole : Position) (answers : Position → Option Answer) → k < l.sequence-index
      → SaysFrom g.S.SpanSource.to_come (g.A.TableAnswer.tell l.answer) (g.A.TableAnswer.said l.answer) (get_or l.fn.sequences k d)
      l.fn.low whole answers → (p : Position) → IsAtMost l.fn.low p → IsBelow p l.to
      → Says (g.A.TableAnswer.tell l.answer) (g.A.TableAnswer.said l.answer) answers p → ⊥;
  said : IsBelow l.to l.fn.high
      → OneSays g.S.SpanSource.to_come (g.A.TableAnswer.tell l.answer) (g.A.TableAnswer.said l.answer) l.fn.sequences l.fn.low l.to;
}
