use Rattle.std.proofs.Common.{Option, IfSome}
use Rattle.lnt_spans.specs.declared.answer.Answer.{Answer}
use Rattle.lnt_spans.specs.declared.position.Position.{Position}
use Rattle.lnt_spans.specs.Positions.{IsAtMost, IsBelow}
use Rattle.lnt_table.specs.Said.{SaysFrom, left_of}
use Rattle.lnt_table.proofs.said.SequenceSpans.said_from.Given as goal

abbrev pub invariant-loop-self : goal.invariant-loop-self
invariant-loop-self g l = record {
  kept : (whole : Position) (answers : Position → Option Answer) → IsAtMost l.fn.end whole
      → SaysFrom g.S.SpanSource.to_come (g.A.TableAnswer.tell l.answer) (g.A.TableAnswer.said l.answer) l.fn.self l.fn.at whole answers
      → SaysFrom g.S.SpanSource.to_come (g.A.TableAnswer.tell l.answer) (g.A.TableAnswer.said l.answer) l.self l.fn.at whole answers;
  ends : (whole : Position) (answers : Position → Option Answer) → IsAtMost l.fn.end whole
      → SaysFrom g.S.SpanSource.to_come (g.A.TableAnswer.tell l.answer) (g.A.TableAnswer.said l.answer) l.fn.self l.fn.at whole answers
      → IfSome l.self.next (λ span. IsBelow l.fn.at span.high);
}

abbrev pub decreases-loop-self : goal.decreases-loop-self
decreases-loop-self g l = left_of g.S.SpanSource.left l.self
