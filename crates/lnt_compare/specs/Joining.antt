-- Spans joined by what a table contains of their answers, which `tell` gives; a joined span keeps the answer of its first part. Of public
-- contracts only those of `Joined` speak of it.
use Rattle.std.specs.Prelude.{◌≡◌, ℕ, List, [], ◌∷◌, ◌++◌, Option, Some, None}
use Rattle.lnt_spans.specs.declared.answer.Answer.{Answer}
use Rattle.lnt_spans.specs.declared.position.Position.{Position}
use Rattle.lnt_spans.specs.declared.span.Span.{Span}
use Rattle.lnt_spans.specs.Remaining.{count_ahead, SpansAreLeft}
use Rattle.lnt_spans.specs.Spans.{AreInOrder}
use Rattle.lnt_spans.specs.Merged.{answer_told}
use Rattle.lnt_records.specs.PathSpans.{PathAnswer, PathSpan}
use Rattle.lnt_compare.specs.declared.joined.Joined.{Joined}

-- a span by path
abbrev pub tell_span : (Answer → PathAnswer) → Span → PathSpan
tell_span tell span = record { low = span.low; high = span.high; answer = tell span.answer }

-- ---- joining

-- The second begins where the first ends, and is told alike.
abbrev pub IsExtendedBy : {X : Type 0} → (Answer → X) → Span → Span → Type 0
IsExtendedBy tell span next = (span.high ≡ next.low) × (tell span.answer ≡ tell next.answer)

-- The first of the spans, if there is one, doesn't extend this one.
abbrev pub IsApart : {X : Type 0} → (Answer → X) → Span → List Span → Type 0
IsApart tell span [] = Unit {0}
IsApart tell span (next ∷ rest) = IsExtendedBy tell span next → ⊥

-- None of the first spans is extended by the one after it, be it the first of the rest.
abbrev pub AreApart : {X : Type 0} → (Answer → X) → List Span → List Span → Type 0
AreApart tell [] rest = Unit {0}
AreApart tell (span ∷ first) rest = IsApart tell span (first ++ rest) × AreApart tell first rest

-- Both lists begin at the same position and are told alike there, or both are empty.
abbrev pub BeginAlike : {X : Type 0} → (Answer → X) → List Span → List Span → Type 0
BeginAlike tell [] [] = Unit {0}
BeginAlike tell (x ∷ xs) (y ∷ ys) = (x.low ≡ y.low) × (tell x.answer ≡ tell y.answer)
BeginAlike tell _ _ = ⊥

-- After any spans, those of the second list are in order if those of the first are, and then are told alike at every position. Both
-- lists begin alike.
pub record AreJoinedAs {X : Type 0} (tell : Answer → X) (list joined : List Span) : Type 0 where
  pub order : (prefix : List Span) → AreInOrder (prefix ++ list) → AreInOrder (prefix ++ joined)
  pub same : (prefix : List Span) → AreInOrder (prefix ++ list) → (p : Position)
      → answer_told tell (prefix ++ joined) p ≡ answer_told tell (prefix ++ list) p
  pub begin : BeginAlike tell list joined

-- the spans that are still to be joined
abbrev pub AreToJoin : {S : Type 0} → (S → List Span → Type 0) → Joined S → List Span → Type 0
AreToJoin to_come joined = SpansAreLeft to_come joined.next joined.spans

-- an upper bound on their number, if the function bounds the spans that are left in the source
abbrev pub count_to_join : {S : Type 0} → (S → ℕ) → Joined S → ℕ
count_to_join left joined = count_ahead joined.next (left joined.spans)

-- No span is to come; or this one is the first of the list, joined with all those after it that extend it, and the others are to come.
abbrev pub GivesJoined : {X : Type 0} → (Answer → X) → List Span → (List Span → Type 0) → Option Span → Type 0
GivesJoined tell list left None = (list ≡ []) × left []
GivesJoined tell list left (Some span) = (rest : List Span) × left rest × AreJoinedAs tell list (span ∷ rest) × IsApart tell span rest

-- The spans given and then those to come are in order and told as those of the list are, and none of those given is extended by the
-- one after it.
pub record LeaveOff {X : Type 0} (tell : Answer → X) (ToCome : List Span → Type 0) (list given : List Span) : Type 0 where
  pub rest : List Span
  pub left : ToCome rest
  pub order : AreInOrder (given ++ rest)
  pub same : (p : Position) → answer_told tell (given ++ rest) p ≡ answer_told tell list p
  pub apart : AreApart tell given rest
