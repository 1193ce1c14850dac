-- Whether a section holds a position, as its first span tells.
use Rattle.std.proofs.Common.{◌≡◌, ◌↔◌, Bool, IsTrue, List, Option, Some, None, [], ◌∷◌, ap, arith, is_none, length, sym, IsPermutation}
use Rattle.std.proofs.lemmas.List.{nil_from_length}
use Rattle.std.proofs.lemmas.List.Sorted.{length_permutation}
use Rattle.lnt_spans.specs.Remaining.{GivesFirstSpan}
use Rattle.lnt_spans.specs.declared.span.Span.{Span}

-- No first one of these spans is there exactly where the same spans in another order are none.
pub no_first_of_none : (left : List Span → Type 0) (spans all : List Span) (given : Option Span) (is : Bool)
    → GivesFirstSpan left spans given
    → IsPermutation all spans → is ≡ is_none given → IsTrue is ↔ all ≡ []
no_first_of_none left [] all None is gives same none = (λ _. nil_from_length all (sym (length_permutation all [] same)), λ _. none)
no_first_of_none left (span ∷ spans) all (Some given) is gives same some = (
  λ true. absurd (cc),
  λ empty. absurd (omega (arith, length_permutation all (span ∷ spans) same, ap length empty)),
)
no_first_of_none left [] all (Some given) is gives same some = absurd gives
no_first_of_none left (span ∷ spans) all None is gives same some = absurd gives
