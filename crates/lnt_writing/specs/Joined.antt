-- All joined spans, or the first of them, and where they begin or end within an instruction. No public contract speaks of it.
use Rattle.std.specs.Prelude.{◌≡◌, ◌≢◌, ◌⊎◌, List, [], ◌∷◌}
use Rattle.lnt_spans.specs.declared.answer.Answer.{Answer}
use Rattle.lnt_spans.specs.declared.position.Position.{Position}
use Rattle.lnt_spans.specs.declared.span.Span.{Span}
use Rattle.lnt_spans.specs.Spans.{IsOfInstructions, AreInOrder}
use Rattle.lnt_spans.specs.Merged.{answer_told}
use Rattle.lnt_compare.specs.Joining.{AreApart}

-- any spans may be to come
abbrev pub Any : List Span → Type 0
Any rest = Unit {0}

-- The spans are in order and told as those of the list are, and none is extended by the one after it.
pub record AreJoined {X : Type 0} (tell : Answer → X) (list joined : List Span) : Type 0 where
  pub order : AreInOrder joined
  pub same : (p : Position) → answer_told tell joined p ≡ answer_told tell list p
  pub apart : AreApart tell joined []

-- ---- borders

-- the first position at which spans in order begin or end with an operation index other than 0
abbrev pub IsFirstOperation : Position → List Span → Type 0
IsFirstOperation p [] = ⊥
IsFirstOperation p (span ∷ spans) = ((span.low.op ≢ 0) × (p ≡ span.low))
    ⊎ ((span.low.op ≡ 0) × (span.high.op ≢ 0) × (p ≡ span.high))
    ⊎ (IsOfInstructions span × IsFirstOperation p spans)
