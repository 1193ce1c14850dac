use Rattle.std.proofs.Common.{◌<◌, ◌≤◌, ℕ, Option, get_or}
use Rattle.lnt_spans.specs.declared.answer.Answer.{Answer}
use Rattle.lnt_spans.specs.declared.position.Position.{Position}
use Rattle.lnt_spans.specs.Positions.{IsAtMost, IsBelow}
use Rattle.lnt_table.specs.declared.said.SequenceSpans.{SequenceSpans}
use Rattle.lnt_table.specs.Said.{OneSays, Says, SaysFrom, StillSay, all_left}
use Rattle.lnt_table.proofs.said.said_by_turns.Given as goal

abbrev pub invariant-loop-sequence : goal.invariant-loop-sequence
invariant-loop-sequence g l = record {
  past : IsAtMost l.fn.at l.to;
  upto : IsAtMost l.to l.fn.end;
  still : StillSay g.S.SpanSource.to_come (g.A.TableAnswer.tell l.answer) (g.A.TableAnswer.said l.answer) l.fn.sequences l.sequences
      l.fn.at l.to l.fn.end;
  said : (p : Position) → IsAtMost l.fn.at p → IsBelow p l.to
      → OneSays g.S.SpanSource.to_come (g.A.TableAnswer.tell l.answer) (g.A.TableAnswer.said l.answer) l.fn.sequences l.fn.at p;
  unsaid : IsAtMost l.to l.fn.at → (k : ℕ) (d : SequenceSpans _) (whole : Position) (answers : Position → Option Answer)
      → k < l.sequence-index → SaysFrom g.S.SpanSource.to_come (g.A.TableAnswer.tell l.answer) (g.A.TableAnswer.said l.answer)
      (get_or l.fn.sequences k d) l.fn.at whole answers
      → Says (g.A.TableAnswer.tell l.answer) (g.A.TableAnswer.said l.answer) answers l.fn.at → ⊥;
  most : all_left g.S.SpanSource.left l.sequences ≤ all_left g.S.SpanSource.left l.fn.sequences;
  fewer : IsBelow l.fn.at l.to → IsBelow l.to l.fn.end
      → all_left g.S.SpanSource.left l.sequences < all_left g.S.SpanSource.left l.fn.sequences;
}
