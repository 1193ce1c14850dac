-- The lines of joined spans are written, as the spans come.
use Rattle.std.proofs.Common.{ℕ, List, [], ◌∷◌, ◌++◌, Option, map, subst, sym}
use Rattle.std.specs.List.{AllByRecursion}
use Rattle.std.proofs.lemmas.List.{map-append}
use Rattle.lnt_spans.specs.declared.span.Span.{Span}
use Rattle.lnt_records.specs.Progress.{AddsLine}
use Rattle.lnt_records.specs.Written.{LineFormat}
use Rattle.lnt_records.proofs.LineLaws.{Lines, lines_put, one_line}
use Rattle.lnt_writing.proofs.CanonicalLemmas.{all_left}

all_last : {X : Type 0} (Is : X → Type 0) (xs : List X) (x : X) → AllByRecursion Is (xs ++ x ∷ []) → Is x
all_last Is [] x h = h.0
all_last Is (y ∷ xs) x h = all_last Is xs x h.1

-- the line of one more span was put into the block
pub line_put : {V X : Type 0} (plain : LineFormat V X) (version : V) (told : Span → X) (HasLine : Span → Type 0)
    (old now : Option (List ℕ)) (block grown : List ℕ) (given : List Span) (span : Span)
    → (AllByRecursion HasLine given → Lines plain version old now block (map told given))
    → (HasLine span → AddsLine plain version (told span) block grown) → AllByRecursion HasLine (given ++ span ∷ [])
    → Lines plain version old now grown (map told (given ++ span ∷ []))
line_put plain version told HasLine old now block grown given span lines line has =
    subst (Lines plain version old now grown) (sym (map-append told given (span ∷ [])))
    (lines_put plain version old now block grown (map told given) (told span ∷ []) (lines (all_left HasLine given (span ∷ []) has))
    (one_line plain version (told span) block grown (line (all_last HasLine given span has))))
