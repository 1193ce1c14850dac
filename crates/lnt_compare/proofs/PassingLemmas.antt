-- The lines of a table by number are passed and compared.
use Rattle.lnt_spans.proofs.AnsweringLaws.{end_pushed, prefix_in_order}
use Rattle.lnt_spans.proofs.CountLemmas.{addresses_of_spans, most_addresses}
use Rattle.lnt_spans.specs.Partial.{addresses_between, addresses_of}
use Rattle.lnt_spans.specs.SpanKinds.{is_held}
use Rattle.std.proofs.Common.{◌≡◌, ℕ, ◌+◌, ◌^◌, ◌≤◌, arith, Bool, true, false, cond, List, [], ◌∷◌, ◌++◌, Option, Some, None, map, subst}
use Rattle.std.proofs.Common.{append-nil, not, refl, ap, sym, is_some, option_map}
use Rattle.std.proofs.lemmas.List.{map-append}
use Rattle.std.proofs.lemmas.Option.{same_Some}
use Rattle.std.specs.List.{AllByRecursion, AllZip, cons_option, find}
use Rattle.lnt_spans.specs.declared.answer.Answer.{Answer}
use Rattle.lnt_spans.specs.declared.answer.More.{More}
use Rattle.lnt_spans.specs.declared.answer.Version.{Version}
use Rattle.lnt_spans.specs.declared.answer.Version.TheVariants.{One, Two}
use Rattle.lnt_spans.specs.declared.position.Position.{Position}
use Rattle.lnt_spans.specs.declared.span.Span.{Span}
use Rattle.lnt_spans.specs.Answers.{in_version}
use Rattle.lnt_spans.specs.Spans.{IsTold, AreInOrder, span_answer, span_in_version, version_answer, number_spans}
use Rattle.lnt_spans.specs.Remaining.{SpansAreLeft, GivesFirstSpan}
use Rattle.lnt_spans.proofs.ToldLaws.{told}
use Rattle.lnt_records.specs.Progress.{AreLinesIn}
use Rattle.lnt_compare.specs.Passing.{AreLinesOf, IsLineIn, Passes, AreLeft}
use Rattle.lnt_records.specs.Table.{Fields, IsSpanRecord, TableFormat}
use Rattle.lnt_records.specs.Written.{LineFormat}
use Rattle.lnt_records.proofs.LineLaws.{lines_more, no_lines_in}
use Rattle.lnt_compare.proofs.WindowLaws.{passes_both}

-- ---- lines

-- bytes were passed and then more were taken
pub filled : (a b c : Option (List ℕ)) (la lb lc : ℕ) (w0 w1 w2 text : List ℕ) → Passes a b la lb w0 w1 text → Passes b c lb lc w1 w2 []
    → Passes a c la lc w0 w2 text
filled a b c la lb lc w0 w1 w2 text p q =
    subst (λ (t : List ℕ). Passes a c la lc w0 w2 t) (append-nil text) (passes_both a b c la lb lc w0 w1 w2 text [] p q)

pub no_lines_of : {V X : Type 0} (format : TableFormat V X) (plain : LineFormat V X) (told : Span → X) (version : V)
    → AreLinesOf format plain told version [] [] 1 (record { address = 0; op = 0 })
no_lines_of format plain told version =
    record { lines = no_lines_in format plain version; end_is = refl }

pub line_added : {V X : Type 0} (format : TableFormat V X) (plain : LineFormat V X) (told : Span → X) (version : V) (text : List ℕ)
    (table : List Span) (count : ℕ) (end : Position) (span : Span) (bytes rest : List ℕ)
    → AreLinesOf format plain told version text table count end → (line : IsLineIn format plain version (told span) bytes rest)
    → AreLinesOf format plain told version (text ++ plain.line line.fields) (table ++ span ∷ []) (count + 1) span.high
line_added {V} {X} format plain told version text table count end span bytes rest a line =
    let more : List ℕ = text ++ plain.line line.fields in
    record {
      lines = subst (λ (spans : List X). AreLinesIn format plain version more spans (count + 1)) (sym (map-append told table (span ∷ [])))
          (lines_more format plain version text (map told table) count line.fields (told span) a.lines line.says);
      end_is = sym (end_pushed number_spans table span);
    }

-- ---- the addresses that the spans of these lines answer

addresses_pushed : (spans : List Span) (span : Span)
    → addresses_of (spans ++ span ∷ []) ≡ addresses_of spans + addresses_between span.low span.high
addresses_pushed [] span = omega arith
addresses_pushed (first ∷ spans) span = let rest = addresses_pushed spans span in omega (arith, rest)

pub answered_pushed : (spans rest : List Span) (span : Span) (old new : ℕ) → AreInOrder ((spans ++ span ∷ []) ++ rest)
    → old ≡ addresses_of spans
    → (old + addresses_between span.low span.high ≤ 2 ^ 64 → new ≡ old + addresses_between span.low span.high)
    → new ≡ addresses_of (spans ++ span ∷ [])
answered_pushed spans rest span old new order is adds =
    let all = spans ++ span ∷ [] in
    let pushed = addresses_pushed spans span in
    let held = addresses_of_spans all (prefix_in_order number_spans all rest order) in
    let most = most_addresses (span_answer all) in
    let sum = adds (omega (arith, pushed, held, most, is)) in
    omega (arith, pushed, is, sum)

-- ---- answers that a version tells

made_one : (span : Span) → span.answer.more ≡ None → span_in_version One span ≡ span
made_one span e = ap (λ (more : Option More). record span { answer = record span.answer { more = more } }) (sym e)

told_one : (version : Version) (fields : Fields) (span : Span) → IsSpanRecord version fields span → IsTold version span
told_one One fields span says = made_one span says.more
told_one Two fields span says = refl

pub all_told : (version : Version) (records : List Fields) (table : List Span) → AllZip (IsSpanRecord version) records table
    → AllByRecursion (IsTold version) table
all_told version [] [] z = tt
all_told version [] (s ∷ table) z = absurd z
all_told version (r ∷ records) [] z = absurd z
all_told version (r ∷ records) (s ∷ table) z = (told_one version r s z.0, all_told version records table z.1)

-- ---- the first spans as a version tells them

told_twice : (version : Version) (answer : Answer) → in_version version (in_version version answer) ≡ in_version version answer
told_twice One answer = refl
told_twice Two answer = refl

pub first_order : (version : Version) (table rest : List Span) → AreInOrder (table ++ rest) → AreInOrder (told version table ++ rest)
first_order version [] rest h = h
first_order version (span ∷ []) [] h = h
first_order version (span ∷ []) (next ∷ rest) h = h
first_order version (span ∷ next ∷ table) rest h = (h.0, h.1, first_order version (next ∷ table) rest h.2)

pub first_answer : (version : Version) (table rest : List Span) (p : Position)
    → version_answer version (told version table ++ rest) p ≡ version_answer version (table ++ rest) p
first_answer version [] rest p = refl
first_answer version (span ∷ table) rest p = by (is_held number_spans p span) (first_answer version table rest p)
  where
    by : (test : Bool) → version_answer version (told version table ++ rest) p ≡ version_answer version (table ++ rest) p
        → option_map (in_version version) (option_map (λ (s : Span). s.answer)
        (cond test (Some (span_in_version version span)) (find (is_held number_spans p) (told version table ++ rest))))
        ≡ option_map (in_version version) (option_map (λ (s : Span). s.answer)
        (cond test (Some span) (find (is_held number_spans p) (table ++ rest))))
    by true e = ap Some (told_twice version span.answer)
    by false e = e

-- ---- the spans that are left, as they come

-- the source gives the next span, once the spans before it are given
pub gives_next : (old new : List Span → Type 0) (first second first' second' : Option Span) (is_ended : Bool) (result : Option Span)
    → first ≡ None → second ≡ None → first' ≡ None → second' ≡ None → is_ended ≡ false
    → ((spans : List Span) → old spans → GivesFirstSpan new spans result) → (spans : List Span)
    → (rest : List Span) × AreLeft is_ended old rest × (spans ≡ cons_option first (cons_option second rest))
    → GivesFirstSpan (λ (xs : List Span). (rest : List Span) × AreLeft is_ended new rest
    × (xs ≡ cons_option first' (cons_option second' rest))) spans result
gives_next old new None None None None false result e1 e2 e3 e4 e5 gives spans (rest, left, e) = rw e (by rest result (gives rest left))
  where
    by : (list : List Span) (found : Option Span) → GivesFirstSpan new list found
        → GivesFirstSpan (λ (xs : List Span). (rest : List Span) × new rest × (xs ≡ rest)) list found
    by [] None g = tt
    by [] (Some span) g = absurd g
    by (span ∷ list) None g = absurd g
    by (span ∷ list) (Some found) g = (g.0, (list, g.1, refl))
gives_next old new (Some x) second first' second' is_ended result e1 e2 e3 e4 e5 gives spans h = absurd (cc e1)
gives_next old new None (Some x) first' second' is_ended result e1 e2 e3 e4 e5 gives spans h = absurd (cc e2)
gives_next old new None None (Some x) second' is_ended result e1 e2 e3 e4 e5 gives spans h = absurd (cc e3)
gives_next old new None None None (Some x) is_ended result e1 e2 e3 e4 e5 gives spans h = absurd (cc e4)
gives_next old new None None None None true result e1 e2 e3 e4 e5 gives spans h = absurd (cc e5)

-- the next span was already taken out of the source
pub left_after : {S : Type 0} (to_come : S → List Span → Type 0) (first next : Option Span) (spans : S) (is_ended : Bool)
    → is_some next ≡ not is_ended → (rest : List Span) → SpansAreLeft to_come next spans rest
    → (more : List Span) × AreLeft is_ended (to_come spans) more × (cons_option first rest ≡ cons_option first (cons_option next more))
left_after to_come first None spans true e [] left = ([], refl, refl)
left_after to_come first None spans true e (span ∷ rest) left = absurd (cc (left.0))
left_after to_come first None spans false e rest left = absurd (cc e)
left_after to_come first (Some next) spans true e rest left = absurd (cc e)
left_after to_come first (Some next) spans false e [] left = absurd (cc left)
left_after to_come first (Some next) spans false e (span ∷ rest) left =
    (rest, left.1, ap (λ (s : Span). cons_option first (s ∷ rest)) (sym (same_Some next span left.0)))
