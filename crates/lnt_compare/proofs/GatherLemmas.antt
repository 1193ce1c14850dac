-- The spans of a table's records are gathered.
use Rattle.lnt_spans.proofs.AnsweringLaws.{end_pushed}
use Rattle.std.proofs.Common.{◌≡◌, ◌∙◌, ◌+◌, ℕ, List, [], ◌∷◌, ◌++◌, append-nil, append_assoc, ap, Option, length, refl}
use Rattle.std.proofs.Common.{subst, sym, arith, Global, Vec, IfOk, Result, option_map}
use Rattle.std.specs.List.{AllByRecursion}
use Rattle.std.proofs.lemmas.Result.{IfOk-weaker}
use Rattle.std.specs.declared.alloc.AllocError.{AllocError}
use Rattle.lnt_spans.specs.declared.answer.Answer.{Answer}
use Rattle.lnt_spans.specs.declared.answer.Version.{Version}
use Rattle.lnt_spans.specs.declared.span.Span.{Span}
use Rattle.lnt_spans.specs.declared.position.Position.{Position}
use Rattle.lnt_spans.specs.Answers.{in_version}
use Rattle.lnt_spans.specs.Partial.{addresses_between, addresses_of}
use Rattle.lnt_spans.specs.Spans.{IsTold, end_of, AreInOrder, span_answer, span_in_version, number_spans}
use Rattle.lnt_spans.specs.declared.listed.SpanList.{SpanList}
use Rattle.lnt_spans.proofs.ToldLaws.{told, told_order}
use Rattle.lnt_compare.specs.declared.gathering.Gathering.{Gathering}
use Rattle.lnt_compare.specs.declared.outcome.TableRead.{TableRead}
use Rattle.lnt_compare.specs.declared.outcome.TableRead.TheVariants.{Fault, Table}
use Rattle.lnt_compare.specs.declared.remaining.Remaining.{Remaining}
use Rattle.lnt_compare.specs.Comparisons.{tables_by_number}
use Rattle.lnt_compare.specs.Differing.{Differing, IsDiffering, IsStarted}
use Rattle.lnt_compare.specs.Joining.{LeaveOff}
use Rattle.lnt_compare.specs.Passing.{AreLinesOf}
use Rattle.lnt_compare.specs.Progress.{Comes, Gathers, IsContinuedBy, IsGathered}
use Rattle.lnt_records.specs.Progress.{IsCutAfter}
use Rattle.lnt_records.specs.Table.{Fields, IsSpanRecord, IsTable, IsTableOf, by_number, column_names}
use Rattle.lnt_records.specs.Written.{plain_by_number}
use Rattle.lnt_compare.proofs.ComparisonLemmas.{table_more}
use Rattle.lnt_compare.proofs.KindLaws.{end_told, number_laws}
use Rattle.lnt_compare.proofs.PassingLemmas.{all_told, first_answer, first_order}
use Rattle.lnt_records.proofs.TableLaws.{table_order}

-- ---- the records of a text

-- no span was gathered yet
pub gathers_none : (version : Version) (gathering : Gathering) (table : List Span) (records : List Fields) → IsTable version records table
    → gathering.spans.items ≡ [] → gathering.at ≡ end_of table → Gathers version gathering table records
gathers_none version gathering table records is_table none at =
    let same : table ++ gathering.spans.items ≡ table = ap (λ (t : List Span). table ++ t) none ∙ append-nil table in
    record { is_table = subst (IsTable version records) (sym same) is_table; at = at ∙ ap end_of (sym same) }

pub gathers_more : (version : Version) (old new : Gathering) (before : List Span) (records : List Fields) (fields : Fields) (span : Span)
    → Gathers version old before records → IsSpanRecord version fields span → Comes old.at span.low span.high
    → new.spans.items ≡ old.spans.items ++ span ∷ [] → new.at ≡ span.high
    → Gathers version new before (records ++ fields ∷ [])
gathers_more version old new before records fields span g says comes items at =
    let table : List Span = before ++ old.spans.items in
    let same : table ++ span ∷ [] ≡ before ++ new.spans.items =
    append_assoc before old.spans.items (span ∷ []) ∙ ap (λ (t : List Span). before ++ t) (sym items) in
    record {
      is_table = subst (IsTable version (records ++ fields ∷ [])) same
          (table_more tables_by_number number_laws version records table fields span g.is_table says
          (subst (λ (p : Position). Comes p span.low span.high) g.at comes));
      at = at ∙ sym (end_pushed number_spans table span) ∙ ap end_of same;
    }

-- What `gather_after` gives, if the records before end at `at` and are this many with the header.
abbrev pub GathersAfter : Version → List ℕ → Position → ℕ → Result (TableRead (Vec Span Global)) AllocError → Type 0
GathersAfter version text at count gathered = IfOk gathered (λ it. (table : List Span) (passed : List Fields) (bytes : List ℕ)
    → IsTable version passed table → at ≡ end_of table → count ≡ length passed → IsCutAfter (column_names version) text bytes passed
    → IsGathered bytes version table it)

-- after the lines that were passed
pub gathered_lines : (version : Version) (text all bytes : List ℕ) (table : List Span) (count : ℕ) (at : Position)
    (gathered : Result (TableRead (Vec Span Global)) AllocError)
    → (lines : AreLinesOf by_number plain_by_number (span_in_version version) version text table count at) → AreInOrder table
    → IsCutAfter (column_names version) all bytes (column_names version ∷ lines.lines.records) → GathersAfter version all at count gathered
    → IfOk gathered (IsGathered bytes version (told version table))
gathered_lines version text all bytes table count at gathered lines order cut h =
    IfOk-weaker gathered _ _
    (λ it so. so (told version table) (column_names version ∷ lines.lines.records) bytes
    (refl, record { each = lines.lines.each; in_order = told_order version table order }) (lines.end_is ∙ sym (end_told version table))
    (omega (arith, lines.lines.count_is)) cut)
    h

-- after the header alone
pub gathered_all : (version : Version) (bytes : List ℕ) (gathered : Result (TableRead (Vec Span Global)) AllocError)
    → GathersAfter version bytes (record { address = 0; op = 0 }) 1 gathered → IfOk gathered (IsGathered bytes version [])
gathered_all version bytes gathered h =
    IfOk-weaker gathered _ _
    (λ it so. so [] (column_names version ∷ []) bytes (refl, record { each = tt; in_order = tt }) refl refl (λ more after rest r. r))
    h

-- ---- the stretches after the records that both sides begin with

pub version_told : (version : Version) (bytes : List ℕ) (table : List Span) → IsTableOf version bytes table
    → AllByRecursion (IsTold version) table
version_told version bytes table t = by_records t.0 t.2
  where
    by_records : (records : List Fields) → IsTable version records table → AllByRecursion (IsTold version) table
    by_records [] t = absurd t
    by_records (first ∷ records) t = all_told version records table t.1.each

pub version_order : (version : Version) (bytes : List ℕ) (table : List Span) → IsTableOf version bytes table → AreInOrder table
version_order version bytes table t = table_order by_number version t.0 table t.2

addresses_told : (version : Version) (table : List Span) → addresses_of table ≡ addresses_of (told version table)
addresses_told version [] = refl
addresses_told version (span ∷ table) = ap (λ (n : ℕ). addresses_between span.low span.high + n) (addresses_told version table)

-- the section answers as the lines that were passed and the spans after them do
pub goes_on : (version : Version) (ToCome : List Span → Type 0) (list table : List Span) (section : Position → Option Answer)
    (at : Position) (answered : ℕ) → (off : LeaveOff (in_version version) ToCome list table) → at ≡ end_of table
    → answered ≡ addresses_of table → ((p : Position) → span_answer list p ≡ section p)
    → IsContinuedBy version section (told version table) off.rest at answered
goes_on version ToCome list table section at answered off end counted answers = record {
  order = first_order version table off.rest off.order;
  same = λ p. first_answer version table off.rest p ∙ off.same p ∙ ap (option_map (in_version version)) (answers p);
  end_is = end ∙ sym (end_told version table);
  answered_is = counted ∙ addresses_told version table;
}

-- without passed lines, all spans of the section are to come
pub all_to_come : (version : Version) (list : List Span) (section : Position → Option Answer) → AreInOrder list
    → ((p : Position) → span_answer list p ≡ section p) → IsContinuedBy version section [] list (record { address = 0; op = 0 }) 0
all_to_come version list section order answers =
    record { order = order; same = λ p. ap (option_map (in_version version)) (answers p); end_is = refl; answered_is = refl }

-- no stretch of a table was given yet
pub started : {S : Type 0} (of_section : Remaining S → List Span → Type 0) (of_table : SpanList → List Span → Type 0) (bytes : List ℕ)
    (section : Position → Option Answer) (differing : Differing S)
    → IsDiffering of_section of_table bytes section differing → IsStarted of_section of_table differing
started of_section of_table bytes section (Fault told) h = tt
started of_section of_table bytes section (Table differences) h = (_, _, h.so)
