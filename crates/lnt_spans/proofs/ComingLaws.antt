-- Spans that a source gives one after another.
use Rattle.std.proofs.Common.{◌≡◌, List, [], ◌∷◌, ◌++◌, Some, None, refl, append_assoc, arith, append-nil}
use Rattle.lnt_spans.specs.declared.span.Span.{Span}
use Rattle.lnt_spans.specs.Remaining.{GivesFirstSpan}
use Rattle.std.proofs.lemmas.Grind.{common_steps}

-- Of the spans in the list these were given, and the rest is still to come.
pub record HasGiven (list given : List Span) (AreLeft : List Span → Type 0) : Type 0 where
  pub rest : List Span
  pub list_is : list ≡ given ++ rest
  pub left : AreLeft rest

pub none_given : (list : List Span) (AreLeft : List Span → Type 0) → AreLeft list → HasGiven list [] AreLeft
none_given list AreLeft left = record { rest = list; list_is = refl; left = left }

pub one_given : (list given : List Span) (span : Span) (AreLeft AreLeft' : List Span → Type 0) → HasGiven list given AreLeft
    → ((spans : List Span) → AreLeft spans → GivesFirstSpan AreLeft' spans (Some span))
    → HasGiven list (given ++ span ∷ []) AreLeft'
one_given list given span AreLeft AreLeft' h gives = grind (arith, common_steps, append_assoc)

pub all_given : (list given : List Span) (AreLeft AreLeft' : List Span → Type 0) → HasGiven list given AreLeft
    → ((spans : List Span) → AreLeft spans → GivesFirstSpan AreLeft' spans None) → list ≡ given
all_given list given AreLeft AreLeft' h gives = grind (arith, common_steps, append-nil)
