-- Lists of spans, whatever their answers are: what they answer, and the canonical list for each way to answer.
use Rattle.std.specs.Prelude.{◌≡◌, ◌≢◌, Bool, ◌&&◌, List, [], ◌∷◌, Option, find, option_map}
use Rattle.lnt_spans.specs.Positions.{IsBelow, IsAtMost, is_below, is_at_most, Position}

-- Spans `X` with answers `Y`: each gives one answer to the half-open range of positions from `low` up to `high`.
pub record SpanKind (X Y : Type 0) : Type 0 where
  pub low : X → Position
  pub high : X → Position
  pub answer : X → Y

-- ---- what spans answer

-- whether the span holds p
abbrev pub is_held : {X Y : Type 0} → SpanKind X Y → Position → X → Bool
is_held kind p span = is_at_most (kind.low span) p && is_below p (kind.high span)

-- the answer of the span that holds p, else None
abbrev pub answer_held : {X Y : Type 0} → SpanKind X Y → List X → Position → Option Y
answer_held kind spans p = option_map kind.answer (find (is_held kind p) spans)

-- ---- canonical spans

-- Each span holds a position, and none begins below the end of the one before it.
abbrev pub AreSpansInOrder : {X Y : Type 0} → SpanKind X Y → List X → Type 0
AreSpansInOrder kind [] = Unit {0}
AreSpansInOrder kind (span ∷ []) = IsBelow (kind.low span) (kind.high span)
AreSpansInOrder kind (span ∷ next ∷ spans) =
    IsBelow (kind.low span) (kind.high span) × IsAtMost (kind.high span) (kind.low next) × AreSpansInOrder kind (next ∷ spans)

-- No two spans that touch have the same answer.
abbrev pub DifferWhereTheyTouch : {X Y : Type 0} → SpanKind X Y → List X → Type 0
DifferWhereTheyTouch kind [] = Unit {0}
DifferWhereTheyTouch kind (span ∷ []) = Unit {0}
DifferWhereTheyTouch kind (span ∷ next ∷ spans) =
    (kind.high span ≡ kind.low next → kind.answer span ≢ kind.answer next) × DifferWhereTheyTouch kind (next ∷ spans)

-- In order, none empty, and no two that touch with the same answer.
pub record AreCanonical {X Y : Type 0} (kind : SpanKind X Y) (spans : List X) : Type 0 where
  pub in_order : AreSpansInOrder kind spans
  pub differ : DifferWhereTheyTouch kind spans

-- where the last span ends, or the origin if there is none
abbrev pub last_end : {X Y : Type 0} → SpanKind X Y → List X → Position
last_end kind [] = record { address = 0; op = 0 }
last_end kind (span ∷ []) = kind.high span
last_end kind (span ∷ next ∷ spans) = last_end kind (next ∷ spans)

-- ---- what the laws say of them

-- Canonical lists that answer alike everywhere are the same list.
abbrev pub OneCanonicalOf : {X Y : Type 0} → SpanKind X Y → Type 0
OneCanonicalOf {X} kind = (xs ys : List X) → AreCanonical kind xs → AreCanonical kind ys
    → ((p : Position) → answer_held kind xs p ≡ answer_held kind ys p) → xs ≡ ys
