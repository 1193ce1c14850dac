-- Spans that come one after another, the next one already taken: which is the first of them.
use Rattle.std.proofs.Common.{◌≡◌, List, [], ◌∷◌, Some, None, arith}
use Rattle.std.proofs.lemmas.Option.{same_Some}
use Rattle.lnt_spans.specs.Remaining.{IsAhead, Ahead, EndsAfter}
use Rattle.lnt_spans.specs.Spans.{number_spans, AreInOrder, Span}
use Rattle.lnt_spans.proofs.AnsweringLaws.{first_holds}
use Rattle.lnt_spans.proofs.PositionLaws.{at_most_below}
use Rattle.std.proofs.lemmas.Grind.{common_steps}

-- the current span is the first of them
pub left_first : {S : Type 0} (to_come : S → List Span → Type 0) (ahead : Ahead S) (rest : List Span) (span : Span)
    → ahead.next ≡ Some span → IsAhead to_come ahead rest → (more : List Span) × (rest ≡ span ∷ more) × to_come ahead.spans more
left_first to_come ahead rest span e l = grind (arith, common_steps, same_Some)

-- without a current span there is none
pub none_left : {S : Type 0} (to_come : S → List Span → Type 0) (ahead : Ahead S) (rest : List Span) → ahead.next ≡ None
    → IsAhead to_come ahead rest → rest ≡ []
none_left to_come ahead rest e l = grind (arith, common_steps)

pub next_after : (span : Span) (more : List Span) → AreInOrder (span ∷ more) → EndsAfter span.high more
next_after span more o = grind (arith, common_steps, at_most_below, first_holds number_spans)
