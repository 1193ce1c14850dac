use Rattle.std.proofs.Common.{◌≤◌, Option}
use Rattle.lnt_spans.specs.declared.answer.Answer.{Answer}
use Rattle.lnt_spans.specs.declared.position.Position.{Position}
use Rattle.lnt_table.specs.Said.{AnswersFrom, left_of}
use Rattle.lnt_table.proofs.said.SequenceSpans.pass_to.Given as goal

abbrev pub invariant-loop-self : goal.invariant-loop-self
invariant-loop-self g l = record {
  kept : (answers : Position → Option Answer) → AnswersFrom g.S.SpanSource.to_come l.fn.self l.at answers
      → AnswersFrom g.S.SpanSource.to_come l.self l.at answers;
  fewer : left_of g.S.SpanSource.left l.self ≤ left_of g.S.SpanSource.left l.fn.self;
}

abbrev pub decreases-loop-self : goal.decreases-loop-self
decreases-loop-self g l = left_of g.S.SpanSource.left l.self
