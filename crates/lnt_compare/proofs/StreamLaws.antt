-- A table of which some lines were passed, and the rest was read after its header.
use Rattle.std.proofs.Common.{◌≡◌, ◌≢◌, ◌∙◌, ℕ, List, [], ◌∷◌, ◌++◌, Option, Some, None, IfSome, append_assoc}
use Rattle.std.proofs.Common.{ap, refl, subst, sym, arith}
use Rattle.std.specs.List.{AllZip}
use Rattle.lnt_spans.specs.declared.answer.Version.{Version}
use Rattle.lnt_spans.specs.declared.difference.Difference.{Difference}
use Rattle.lnt_spans.specs.declared.position.Position.{Position}
use Rattle.lnt_spans.specs.declared.scope.Scope.{Scope}
use Rattle.lnt_spans.specs.declared.span.Span.{Span}
use Rattle.lnt_compare.specs.Comparisons.{TableKind}
use Rattle.lnt_compare.specs.Outcomes.{IsOutcome, IsOutcomeOf, Outcome}
use Rattle.lnt_compare.specs.declared.outcome.TableRead.TheVariants.{Fault}
use Rattle.lnt_records.specs.declared.fault.TableFault.TheVariants as fault
use Rattle.lnt_compare.specs.Passing.{Ends, Passes}
use Rattle.lnt_records.specs.Progress.{IsCutAfter}
use Rattle.lnt_compare.specs.Progress.{HasComparedLines, Judges}
use Rattle.lnt_records.specs.Faults.{IsFaultIn}
use Rattle.lnt_records.specs.Reading.{IsNarrow}
use Rattle.lnt_records.specs.Table.{BeginsWith, Fields, TableFormat, column_names}
use Rattle.lnt_records.specs.Written.{LineFormat, lines_of}
use Rattle.lnt_compare.proofs.ComparisonLemmas.{outcome_told, passed_more, passed_past}
use Rattle.lnt_compare.proofs.KindLaws.{ToldLaws}
use Rattle.lnt_records.proofs.TableLaws.{FormatLaws}
use Rattle.lnt_spans.specs.Merged.{answer_told}
use Rattle.lnt_spans.specs.Spans.{AreInOrder}
use Rattle.lnt_records.proofs.LineLaws.{LineLaws, all_back, cut_lines, header_begins}
use Rattle.lnt_compare.proofs.WindowLaws.{passes_line}
use Rattle.lnt_spans.specs.declared.answer.Answer.{Answer}
use Rattle.lnt_spans.specs.declared.listed.SpanList.{SpanList}
use Rattle.lnt_compare.specs.declared.remaining.Remaining.{Remaining}
use Rattle.lnt_compare.specs.Differing.{Differing, IsDiffering}

-- ---- the rest of a table of any format, after its header

rest_is : {V X : Type 0} (plain : LineFormat V X) (version : V) (names window given all : List ℕ) → names ≡ plain.line (plain.names version)
    → all ≡ (names ++ window) ++ given → all ≡ plain.line (plain.names version) ++ (window ++ given)
rest_is plain version names window given all e f =
    f ∙ append_assoc names window given ∙ ap (λ (t : List ℕ). t ++ (window ++ given)) e

pub rest_begins : {V X : Type 0} (format : TableFormat V X) (plain : LineFormat V X) → LineLaws format plain → (version : V)
    (d : Option (List ℕ)) (ld : ℕ) (names window all : List ℕ) → names ≡ plain.line (plain.names version) → Ends d ld (names ++ window) all
    → BeginsWith all (plain.names version ∷ [])
rest_begins format plain laws version d ld names window all e ends =
    subst (λ (t : List ℕ). BeginsWith t (plain.names version ∷ [])) (sym (rest_is plain version names window ends.given all e ends.joined))
    (header_begins format plain laws version (window ++ ends.given))

-- The rest was cut out of the bytes that have the lines of these records after the header.
pub rest_cut : {V X : Type 0} (format : TableFormat V X) (plain : LineFormat V X) → LineLaws format plain → (version : V)
    (d : Option (List ℕ)) (ld : ℕ) (names window all : List ℕ) (spans : List X) (records : List Fields)
    → names ≡ plain.line (plain.names version) → (ends : Ends d ld (names ++ window) all) → AllZip (format.Says version) records spans
    → IsCutAfter (plain.names version) all
    (plain.line (plain.names version) ++ (lines_of plain.line records ++ (window ++ ends.given)))
    (plain.names version ∷ records)
rest_cut format plain laws version d ld names window all spans records e ends each =
    let rest : List ℕ = window ++ ends.given in
    let line : List ℕ = plain.line (plain.names version) in
    subst (λ (t : List ℕ). IsCutAfter (plain.names version) t (line ++ (lines_of plain.line records ++ rest))
    (plain.names version ∷ records)) (sym (rest_is plain version names window ends.given all e ends.joined))
    (cut_lines format plain laws version records rest (all_back format plain laws version records spans each))

-- What holds of all bytes from which the rest was cut holds of the header, the bytes that were taken then, and those of the source.
pub whole_cut : {V X : Type 0} (format : TableFormat V X) (plain : LineFormat V X) → LineLaws format plain → (version : V)
    (a d : Option (List ℕ)) (la ld : ℕ) (names w0 w1 text all : List ℕ) (spans : List X) (records : List Fields) (P : List ℕ → Type 0)
    → names ≡ plain.line (plain.names version) → Passes a d la ld w0 w1 text → Ends d ld (names ++ w1) all
    → text ≡ lines_of plain.line records → AllZip (format.Says version) records spans
    → ((bytes : List ℕ) → IsCutAfter (plain.names version) all bytes (plain.names version ∷ records) → P bytes)
    → IfSome a (λ more. P (plain.line (plain.names version) ++ (w0 ++ more)))
whole_cut format plain laws version None d la ld names w0 w1 text all spans records P e p ends is each h = tt
whole_cut format plain laws version (Some x) None la ld names w0 w1 text all spans records P e p ends is each h = absurd p.pulls
whole_cut format plain laws version (Some x) (Some y) la ld names w0 w1 text all spans records P e p ends is each h =
    let inner : lines_of plain.line records ++ (w1 ++ ends.given) ≡ w0 ++ x =
    ap (λ (t : List ℕ). t ++ (w1 ++ ends.given)) (sym is) ∙ sym (append_assoc text w1 ends.given)
    ∙ ap (λ (t : List ℕ). t ++ ends.given) (sym p.joined) ∙ append_assoc w0 p.given ends.given
    ∙ ap (λ (t : List ℕ). w0 ++ (p.given ++ t)) ends.whole ∙ ap (λ (t : List ℕ). w0 ++ t) (sym p.pulls) in
    subst P (ap (λ (t : List ℕ). plain.line (plain.names version) ++ t) inner)
    (h _ (rest_cut format plain laws version (Some y) ld names w1 all spans records e ends each))

-- The rest of a table is a header, then bytes. What holds of every text that begins with the header holds of the rest.
pub holds_of_rest : (P : List ℕ → Type 0) (d : Option (List ℕ)) (ld : ℕ) (line window all : List ℕ) → Ends d ld (line ++ window) all
    → ((rest : List ℕ) → P (line ++ rest)) → P all
holds_of_rest P d ld line window all ends h = subst P (sym (ends.joined ∙ append_assoc line window ends.given)) (h (window ++ ends.given))

-- The outcome for the rest of a table is the outcome for the whole table. Lines were compared with spans as these came, and then others
-- were parsed.
pub rest_compared : {S R D M V X Y : Type 0} (coming : S → List Span → Type 0) (to_come : R → List Span → Type 0)
    (kind : TableKind V X Y D) (plain : LineFormat V X) → LineLaws kind.format plain → FormatLaws kind.format
    → (tell : Answer → Y) (told : Span → X) → ToldLaws kind tell told → (version : V) (section : S) (list : List Span)
    (source : Option (List ℕ)) (may_give : ℕ) (window : List ℕ) (answers : V → Position → Option Y) (scope : Scope)
    (outcome : Outcome D) → HasComparedLines {M = M} scope coming to_come kind.format plain tell told kind.stretch version
    (Judges to_come kind tell version) (IsFaultIn kind.format) section source may_give window outcome → coming section list
    → AreInOrder list → ((p : Position) → answer_told tell list p ≡ answers version p)
    → IfSome source (λ more. IsOutcomeOf kind scope answers (plain.line (plain.names version) ++ (window ++ more)) outcome)
rest_compared {M = M} coming to_come kind plain laws format tell told told_laws version section list source may_give window answers
    scope outcome c come order same =
    let off = c.left list come order in
    let first = passed_past to_come kind plain tell told told_laws version c.spans c.old list c.table c.compared c.count c.end c.answered
    c.past c.lines off.0 off.1 in
    let h = passed_more to_come kind plain tell version c.old c.new list c.compared c.parsed c.count c.next first c.taken in
    let passed : List Fields = plain.names version ∷ h.records in
    let narrow = subst IsNarrow (sym (laws.names version)) (format.narrow version) in
    let header = rest_begins kind.format plain laws version c.source_after c.may_still _ c.window_after c.all refl c.ends in
    let judged = subst (λ (names : Fields). Judges to_come kind tell version c.new h.list (names ∷ h.records))
    (sym (laws.names version)) h.judged in
    whole_cut kind.format plain laws version source c.source_after may_give c.may_still _ window c.window_after (c.compared ++ c.parsed)
    c.all h.judged.table h.records (λ (bytes : List ℕ). IsOutcomeOf kind scope answers bytes outcome) refl c.passes c.ends h.text_is
    h.judged.is_table.1.each
    (λ bytes cut. outcome_told M to_come kind tell version h.list passed bytes answers scope outcome (λ p. h.alike p ∙ same p)
    (c.found (plain.names version) h.list passed bytes narrow header cut judged (omega (arith, h.count))))

-- what holds of all bytes, of which the first were taken
pub first_taken : (a b : Option (List ℕ)) (la lb : ℕ) (window text : List ℕ) (P : List ℕ → Type 0) → Passes a b la lb [] window text
    → IfSome b (λ more. P (text ++ (window ++ more))) → IfSome a P
first_taken None b la lb window text P p h = tt
first_taken (Some x) None la lb window text P p h = absurd p.pulls
first_taken (Some x) (Some y) la lb window text P p h =
    subst P (sym (append_assoc text window y) ∙ ap (λ (t : List ℕ). t ++ y) (sym p.joined) ∙ sym p.pulls) h

-- the same, where the first bytes taken begin with this line
pub line_taken : (a b : Option (List ℕ)) (la lb : ℕ) (first line window : List ℕ) (P : List ℕ → Type 0) → Passes a b la lb [] first []
    → first ≡ line ++ window → IfSome b (λ more. P (line ++ (window ++ more))) → IfSome a P
line_taken a b la lb first line window P p e h =
    first_taken a b la lb window line P (passes_line a b la lb [] first window [] line p e) h

-- what holds of a text that is the first bytes and the rest
pub rest_taken : (a : Option (List ℕ)) (la : ℕ) (window all : List ℕ) (P : List ℕ → Type 0) → Ends a la window all → P all
    → IfSome a (λ more. P (window ++ more))
rest_taken None la window all P ends h = tt
rest_taken (Some bytes) la window all P ends h = subst P (ends.joined ∙ ap (λ (t : List ℕ). window ++ t) ends.whole) h

-- what holds of a text that is all of the bytes, of which the first were taken before
pub all_taken : (a b : Option (List ℕ)) (la lb : ℕ) (window all : List ℕ) (P : List ℕ → Type 0) → Passes a b la lb [] window []
    → Ends b lb window all → P all → IfSome a P
all_taken a b la lb window all P p ends h = first_taken a b la lb window [] P p (rest_taken b lb window all P ends h)

-- ---- the header's fault

-- Bytes that begin with a header don't have the header's fault.
pub not_header : (scope : Scope) (bytes : List ℕ) (version : Version) (section : List Span) (outcome : Outcome Difference)
    → BeginsWith bytes (column_names version ∷ []) → IsOutcome scope bytes section outcome → outcome ≢ Fault fault.Header
not_header scope bytes version section outcome begins h e = subst (IsOutcome scope bytes section) e h version begins

-- bytes that begin with a header don't have the header's fault
pub no_header_fault : {S : Type 0} (of_section : Remaining S → List Span → Type 0) (of_table : SpanList → List Span → Type 0)
    (bytes : List ℕ) (version : Version) (section : Position → Option Answer) (differing : Differing S)
    → BeginsWith bytes (column_names version ∷ []) → IsDiffering of_section of_table bytes section differing
    → differing ≢ Fault fault.Header
no_header_fault of_section of_table bytes version section differing begins h e =
    subst (IsDiffering of_section of_table bytes section) e h version begins
