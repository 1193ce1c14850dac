-- Spans are joined one by one, as they come.
use Rattle.std.proofs.Common.{List, [], ◌∷◌, Option, Some, None, ap, refl, sym, subst}
use Rattle.lnt_spans.proofs.JoinLemmas.{joined_span}
use Rattle.lnt_spans.specs.Remaining.{SpansAreLeft, GivesFirstSpan}
use Rattle.lnt_compare.proofs.JoiningLemmas.{joined_both, joined_first}
use Rattle.lnt_spans.specs.declared.answer.Answer.{Answer}
use Rattle.lnt_spans.specs.declared.span.Span.{Span}
use Rattle.lnt_compare.specs.Joining.{AreJoinedAs, IsExtendedBy}

-- the source gave the first span, if there was one, and the others are to come
abbrev Gives : (List Span → Type 0) → (List Span → Type 0) → Option Span → Type 0
Gives old new result = (spans : List Span) → old spans → GivesFirstSpan new spans result

-- The span stands for the first of the list, and the others are to come.
abbrev pub Stands : {X : Type 0} → (Answer → X) → List Span → (List Span → Type 0) → Span → Type 0
Stands tell list left last = (rest : List Span) × left rest × AreJoinedAs tell list (last ∷ rest)

-- the next one extends it
pub stands_grown : {X : Type 0} (tell : Answer → X) (list : List Span) (old new : List Span → Type 0) (last span : Span)
    → Gives old new (Some span) → IsExtendedBy tell last span → Stands tell list old last
    → Stands tell list new (joined_span last span.high)
stands_grown tell list old new last span gives goes h = by h.0 (gives h.0 h.1) h.2
  where
    by : (rest : List Span) → GivesFirstSpan new rest (Some span) → AreJoinedAs tell list (last ∷ rest)
        → Stands tell list new (joined_span last span.high)
    by [] g j = absurd g
    by (next ∷ rest) g j =
        let so : AreJoinedAs tell list (last ∷ span ∷ rest) =
        subst (λ (s : Span). AreJoinedAs tell list (last ∷ s ∷ rest)) (sym g.0) j in
        let grown = joined_first tell last span rest goes in
        (rest, g.1, joined_both tell list (last ∷ span ∷ rest) (joined_span last span.high ∷ rest) so grown)

-- the first of them was taken out of the source
pub begins_left : {S : Type 0} (to_come : S → List Span → Type 0) (list : List Span) (old : List Span → Type 0) (next : Option Span)
    (spans : S) → Gives old (to_come spans) next → old list → SpansAreLeft to_come next spans list
begins_left to_come list old next spans gives left = by list next (gives list left)
  where
    by : (all : List Span) (given : Option Span) → GivesFirstSpan (to_come spans) all given → SpansAreLeft to_come given spans all
    by [] None g = refl
    by [] (Some span) g = absurd g
    by (span ∷ rest) None g = absurd g
    by (span ∷ rest) (Some given) g = (ap Some g.0, g.1)
