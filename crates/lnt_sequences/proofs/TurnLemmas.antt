-- The spans of sequences one after another.
use Rattle.std.proofs.Common.{List, [], ◌∷◌, ap, subst, sym, arith}
use Rattle.lnt_spans.specs.declared.position.Position.{Position}
use Rattle.lnt_spans.specs.declared.span.Span.{Span}
use Rattle.lnt_spans.proofs.BetweenLaws.{AreBetween, between_append, between_from, order_from_between}
use Rattle.lnt_sequences.specs.RowSpans.{SpansInTurn, StandInTurn, row_spans, spans_after, spans_of}
use Rattle.lnt_sequences.specs.Rules.{AreOrdered, IsOrdered}
use Rattle.lnt_sequences.specs.Sequences.{Placed, position_of}
use Rattle.lnt_sequences.specs.Watching.{last_after}
use Rattle.lnt_sequences.proofs.RowLemmas.{after_between, rising_from_ordered}
use Rattle.std.proofs.lemmas.Grind.{common_steps}

pub spans_between : (low high : Position) (sequences : List Placed) → StandInTurn low sequences high → AreOrdered sequences
    → AreBetween low (spans_of sequences) high
spans_between low high [] turn ordered = turn
spans_between low high (placed ∷ sequences) (row, rows, are, from, others) ordered =
    let here : AreBetween (position_of row) (spans_after placed.id.unit row rows) (position_of (last_after row rows)) =
    after_between placed.id.unit row rows (rising_from_ordered row rows (subst IsOrdered are ordered.0)) in
    let all : AreBetween low (row_spans placed.id.unit placed.rows) (position_of (last_after row rows)) =
    subst (λ (list : List Span). AreBetween low list (position_of (last_after row rows))) (sym (ap (row_spans placed.id.unit) are))
    (between_from low (position_of row) (position_of (last_after row rows)) (spans_after placed.id.unit row rows) from here) in
    between_append low (position_of (last_after row rows)) high (row_spans placed.id.unit placed.rows) (spans_of sequences) all
    (spans_between (position_of (last_after row rows)) high sequences others ordered.1)

pub spans_in_turn : SpansInTurn
spans_in_turn low high sequences turn ordered = grind (arith, common_steps, order_from_between, spans_between)
