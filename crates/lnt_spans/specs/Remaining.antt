-- The spans that are left of a source, from a position on: the next one is already taken, and the others are to come.
use Rattle.std.specs.Prelude.{◌≡◌, List, [], ◌∷◌, Option, Some, None, ℕ, ◌-◌, drop, length, ◌+◌, cond}
use Rattle.lnt_spans.specs.declared.span.Span.{Span}
use Rattle.lnt_spans.specs.declared.listed.SpanList.{SpanList}
use Rattle.lnt_spans.specs.Positions.{IsBelow, Position, is_below}
pub use Rattle.lnt_spans.specs.declared.ahead.Ahead.{Ahead}

-- ---- what it means that a source gives the first of the spans that are to come

-- The first span was given, and `left` says that the others are still to come; or no span was given and none was to come.
abbrev pub GivesFirstSpan : (List Span → Type 0) → List Span → Option Span → Type 0
GivesFirstSpan left [] None = Unit {0}
GivesFirstSpan left (span ∷ spans) (Some given) = (given ≡ span) × left spans
GivesFirstSpan left _ _ = ⊥

-- ---- spans that are left

-- These spans are left: the next one is already taken, if there is one, and the others are to come.
abbrev pub SpansAreLeft : {S : Type 0} → (S → List Span → Type 0) → Option Span → S → List Span → Type 0
SpansAreLeft to_come next spans [] = next ≡ None
SpansAreLeft to_come next spans (first ∷ rest) = (next ≡ Some first) × to_come spans rest

-- the spans of a list in memory that weren't given yet
abbrev pub spans_left : SpanList → List Span
spans_left list = drop list.given list.spans.items

-- how many these are
abbrev pub count_left : SpanList → ℕ
count_left list = length list.spans.items - list.given

-- The first span, if there is one, ends after p.
abbrev pub EndsAfter : Position → List Span → Type 0
EndsAfter p [] = Unit {0}
EndsAfter p (span ∷ spans) = IsBelow p span.high

-- ---- spans that come one after another, the next one already taken: which are still to come, and how many at most

-- These spans, including the current one, are still to come.
abbrev pub IsAhead : {S : Type 0} → (S → List Span → Type 0) → Ahead S → List Span → Type 0
IsAhead to_come ahead spans = SpansAreLeft to_come ahead.next ahead.spans spans

-- ---- how many there are at most

-- an upper bound on the spans to come, if the source has at most `left` of them
abbrev pub count_ahead : Option Span → ℕ → ℕ
count_ahead None left = 0
count_ahead (Some span) left = left + 1

-- 1 if a gap lies between the position and the next span, else 0
abbrev pub gap_before : Position → Option Span → ℕ
gap_before at None = 0
gap_before at (Some span) = cond (is_below at span.low) 1 0
