use Rattle.std.proofs.Common.{◌∙◌, ap, sym, subst, Option, Some, None, is_some, true≢false}
use Rattle.lnt_machine.specs.declared.row.Row.{Row}
use Rattle.lnt_machine.specs.Walking.{GivesRow, SequenceWalk}
use Rattle.lnt_spans.proofs.MergedLemmas.{none_is}
use Rattle.lnt_sequences.specs.RowSpans.{GivesSpan, HasSpans}
use Rattle.lnt_sequences.proofs.SpanningLemmas.{spans_end, spans_first}
use Rattle.lnt_sequences.proofs.spanning.next_span.Goals as goal
use Rattle.lnt_sequences.proofs.spanning.next_span.Goals.{then-is_none, else-is_none}

pub returns-in-Some-clause-gives : goal.returns-in-Some-clause-gives
returns-in-Some-clause-gives c spans has =
    let unit = c.args.unit in
    let old = c.args.rows.now in
    let row = c.in-Some.row in
    let here : HasSpans unit spans c.if-is_none.rows (Some row) =
    elim c.if-is_none.branch [
      | then-is_none w ↦ subst (λ (walk : SequenceWalk). HasSpans unit spans walk (Some row)) (sym w.rows-is)
          (spans_first unit spans old w.next.new.self c.args.last.now row has
          (subst (λ (r : Option Row). GivesRow old r w.next.new.self) (sym w.last-is ∙ c.in-Some.is) w.next.ensures.steps)
          (none_is c.args.last.now w.if-is_none.ensures))
      | else-is_none w ↦ subst (λ (walk : SequenceWalk). HasSpans unit spans walk (Some row)) (sym w.rows-is)
          (subst (HasSpans unit spans old) (sym w.last-is ∙ c.in-Some.is) has)
    ] in
    c.span_after.ensures.gives spans here

pub returns-in-None-clause-gives : goal.returns-in-None-clause-gives
returns-in-None-clause-gives c spans has =
    let unit = c.args.unit in
    let old = c.args.rows.now in
    elim c.if-is_none.branch [
      | then-is_none w ↦ subst (λ (walk : SequenceWalk). GivesSpan unit spans None walk c.if-is_none.last) (sym w.rows-is)
          (spans_end unit spans old w.next.new.self c.args.last.now c.if-is_none.last has
          (subst (λ (r : Option Row). GivesRow old r w.next.new.self) (sym w.last-is ∙ c.in-None.is) w.next.ensures.steps))
      | else-is_none w ↦ absurd (true≢false (sym w.if-is_none.ensures ∙ ap is_some (sym w.last-is ∙ c.in-None.is)))
    ]
