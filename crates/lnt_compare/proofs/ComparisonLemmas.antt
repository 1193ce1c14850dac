-- What a comparison knows after one more record, after lines that were passed, and in the end, by number or by path.
use Rattle.lnt_spans.specs.SpanKinds.{SpanKind, answer_held, last_end}
use Rattle.std.proofs.Common.{◌≡◌, ◌∙◌, ℕ, ◌+◌, List, [], ◌∷◌, ◌++◌, inl, inr, length, length-append, map, None, Option, refl, subst, ap}
use Rattle.std.proofs.Common.{append-nil, append_assoc, sym, arith, option_map, is_some, Some}
use Rattle.std.specs.List.{AllZip}
use Rattle.lnt_spans.specs.declared.answer.Answer.{Answer}
use Rattle.lnt_spans.specs.declared.position.Position.{Position}
use Rattle.lnt_spans.specs.declared.scope.Scope.{Scope}
use Rattle.lnt_spans.specs.declared.span.Span.{Span}
use Rattle.lnt_spans.specs.Spans.{end_of, AreInOrder, span_answer, number_spans}
use Rattle.lnt_spans.specs.Merged.{BeginFrom, HasMerged, HasOneMore, answer_told, end_of_records}
use Rattle.lnt_spans.specs.Partial.{addresses_answered, addresses_of}
use Rattle.lnt_spans.specs.Positions.{IsAtMost, IsBelow}
use Rattle.lnt_spans.proofs.AnsweringLaws.{back_in_order, end_pushed, prefix_in_order, answer_after, answer_before, answer_in, answer_same}
use Rattle.lnt_spans.proofs.CountLemmas.{addresses_of_spans, same_addresses}
use Rattle.lnt_spans.proofs.JudgedLaws.{judged_of_same}
use Rattle.lnt_spans.proofs.MergedLemmas.{merged_past}
use Rattle.lnt_spans.proofs.PassedLaws.{answer_below, answer_from, begin_after}
use Rattle.lnt_spans.proofs.PositionLaws.{at_most_trans, below_at_most, below_is_at_most, order_cases}
use Rattle.lnt_compare.specs.declared.outcome.TableRead.TheVariants.{Fault, Table}
use Rattle.lnt_compare.specs.Comparisons.{TableKind}
use Rattle.lnt_compare.specs.Joining.{LeaveOff}
use Rattle.lnt_compare.specs.Outcomes.{IsOutcomeOf, Outcome}
use Rattle.lnt_compare.specs.Passing.{AreLinesOf, HasTakenLines, IsLineIn}
use Rattle.lnt_compare.specs.Progress.{Comes, HasCompared, HasPassed, HasPushed, IsPast, Judges, Comparison}
use Rattle.lnt_compare.proofs.KindLaws.{KindLaws, ToldLaws}
use Rattle.lnt_records.specs.declared.fault.TableFault.TheVariants as fault
use Rattle.lnt_records.specs.Faults.{IsFaultIn}
use Rattle.lnt_records.specs.Reading.{IsReadAs}
use Rattle.lnt_records.specs.Table.{BeginsWith, Fields, IsTableIn, TableFormat}
use Rattle.lnt_records.specs.Written.{LineFormat, lines_of}
use Rattle.lnt_records.proofs.LineLaws.{lines_append}
use Rattle.lnt_records.proofs.TableLaws.{refused, table_order, table_push, zip_push}

-- ---- one more record, and what the table answers

-- a record after those that give no answer at p
answer_push_none : {X Y : Type 0} (spans : SpanKind X Y) (table more : List X) (p : Position) → answer_held spans table p ≡ None
    → answer_held spans (table ++ more) p ≡ answer_held spans more p
answer_push_none spans [] more p e = refl
answer_push_none spans (r ∷ table) more p e = elim (order_cases p (spans.low r)) [
  | inl before ↦ answer_before spans r (table ++ more) p before
      ∙ answer_push_none spans table more p (sym (answer_before spans r table p before) ∙ e)
  | inr from ↦ elim (order_cases p (spans.high r)) [
    | inl under ↦ let here = answer_in spans r table p from under in absurd (cc (here, e))
    | inr over ↦ answer_after spans r (table ++ more) p over
        ∙ answer_push_none spans table more p (sym (answer_after spans r table p over) ∙ e)
  ]
]

-- a record that begins after p
answer_push_before : {X Y : Type 0} (spans : SpanKind X Y) (table : List X) (span : X) (p : Position) → IsBelow p (spans.low span)
    → answer_held spans (table ++ span ∷ []) p ≡ answer_held spans table p
answer_push_before spans [] span p h = answer_before spans span [] p h
answer_push_before spans (r ∷ table) span p h =
    answer_same spans r (table ++ span ∷ []) table p (answer_push_before spans table span p h)

one_more : {X Y : Type 0} (spans : SpanKind X Y) (at : Position) (table : List X) (span : X) → Comes at (spans.low span) (spans.high span)
    → ((p : Position) → IsAtMost at p → answer_held spans table p ≡ None)
    → HasOneMore (answer_held spans table) (answer_held spans (table ++ span ∷ [])) at (spans.low span) (spans.high span)
    (spans.answer span)
one_more spans at table span h ended = record {
  before = λ p k. answer_push_before spans table span p (below_at_most k h.past);
  gap = λ p k l. answer_push_before spans table span p l ∙ ended p k;
  says = λ p k l. answer_push_none spans table (span ∷ []) p (ended p (at_most_trans h.past k)) ∙ answer_in spans span [] p k l;
  ended = λ p k. answer_push_none spans table (span ∷ []) p
      (ended p (at_most_trans h.past (at_most_trans (below_is_at_most h.holds) k))) ∙ answer_after spans span [] p k;
}

pub table_more : {V X Y D : Type 0} (kind : TableKind V X Y D) (laws : KindLaws kind) (version : V)
    (records : List Fields) (table : List X) (fields : Fields) (span : X) → IsTableIn kind.format version records table
    → kind.format.Says version fields span → Comes (last_end kind.spans table) (kind.spans.low span) (kind.spans.high span)
    → IsTableIn kind.format version (records ++ fields ∷ []) (table ++ span ∷ [])
table_more kind laws version records table fields span t says comes =
    table_push kind.format version records table fields span t says
    (laws.push table span (table_order kind.format version records table t) comes)

pub record_taken : {S D M V X Y : Type 0} (to_come : S → List Span → Type 0) (kind : TableKind V X Y D) (laws : KindLaws kind)
    (tell : Answer → Y) (version : V) (old new : Comparison S D M) (section : List Span) (records : List Fields)
    (fields : Fields) (span : X) → Judges to_come kind tell version old section records → kind.format.Says version fields span
    → HasPushed to_come tell kind.stretch old new (kind.spans.low span) (kind.spans.high span) (kind.spans.answer span)
    → Judges to_come kind tell version new section (records ++ fields ∷ [])
record_taken to_come kind laws tell version old new section records fields span j says push = record {
  table = j.table ++ span ∷ [];
  is_table = table_more kind laws version records j.table fields span j.is_table says
      (subst (λ (p : Position). Comes p (kind.spans.low span) (kind.spans.high span)) j.at push.comes);
  at = push.at ∙ sym (end_pushed kind.spans j.table span);
  merged = push.merged section (answer_held kind.spans j.table) (answer_held kind.spans (j.table ++ span ∷ [])) j.merged
      (one_more kind.spans (end_of_records old.merge) j.table span push.comes j.merged.ended);
}

-- ---- a record that is empty, or begins too low

pub order_refused : {V X Y D : Type 0} (kind : TableKind V X Y D) (laws : KindLaws kind) (version : V)
    (at : Position) (table : List X) (records : List Fields) (fields : Fields) (span : X)
    → IsTableIn kind.format version records table → at ≡ last_end kind.spans table
    → kind.format.Says version fields span → (Comes at (kind.spans.low span) (kind.spans.high span) → ⊥)
    → (whole : Fields) (bytes : List ℕ) → IsReadAs fields whole → BeginsWith bytes (records ++ whole ∷ [])
    → IsFaultIn kind.format bytes (fault.Order (length records))
order_refused kind laws version at table records fields span t ends says not =
    refused kind.format laws.format version records table fields (fault.Order (length records)) t (
      refl,
      span,
      says,
      λ order. not (subst (λ (p : Position). Comes p (kind.spans.low span) (kind.spans.high span)) (sym ends)
          (laws.pushed table span order)),
    )

-- ---- after records with which both sides begin

past_merged : {S D M V X Y : Type 0} (to_come : S → List Span → Type 0) (kind : TableKind V X Y D) (tell : Answer → Y)
    (told : Span → X) → ToldLaws kind tell told → (spans : S) (comparison : Comparison S D M) (at : Position)
    (answered : ℕ) (passed list : List Span) → IsPast to_come spans comparison at answered → to_come spans list
    → AreInOrder (passed ++ list) → at ≡ end_of passed → answered ≡ addresses_of passed
    → HasMerged to_come tell kind.stretch comparison.merge (passed ++ list) (answer_held kind.spans (map told passed))
past_merged to_come kind tell told laws spans comparison at answered passed list past coming order ends counted =
    merged_past to_come tell kind.stretch comparison.merge (passed ++ list) (answer_held kind.spans (map told passed)) past.gap past.mistake
    past.missed
    (past.answered_is ∙ counted ∙ sym (addresses_of_spans passed (prefix_in_order number_spans passed list order)) ∙ sym told_some)
    (λ p h. laws.answers passed p ∙ ap (option_map tell) (none p (subst (λ (q : Position). IsAtMost q p) is h)))
    (λ p h. ap (option_map tell) (answer_below passed list p order (subst (λ (q : Position). IsBelow p q) is h))
    ∙ sym (laws.answers passed p))
    list (past.ahead list coming) (back_in_order number_spans passed list order)
    (subst (λ (q : Position). BeginFrom q list) (sym is) (begin_after passed list order))
    (λ p h. answer_from passed list p order (subst (λ (q : Position). IsAtMost q p) is h))
  where
    is : end_of_records comparison.merge ≡ end_of passed
    is = past.at_is ∙ ends

    is_some_told : (answer : Option Answer) → is_some (option_map tell answer) ≡ is_some answer
    is_some_told None = refl
    is_some_told (Some answer) = refl

    told_some : addresses_answered (answer_held kind.spans (map told passed)) ≡ addresses_answered (span_answer passed)
    told_some = same_addresses (answer_held kind.spans (map told passed)) (span_answer passed)
        (λ p. ap is_some (laws.answers passed p) ∙ is_some_told (span_answer passed p))

    none : (p : Position) → IsAtMost (end_of passed) p → span_answer passed p ≡ None
    none p h = ap (λ (xs : List Span). span_answer xs p) (sym (append-nil passed))
        ∙ answer_from passed [] p (subst AreInOrder (sym (append-nil passed)) (prefix_in_order number_spans passed list order)) h

pub judges_past : {S D M V X Y : Type 0} (to_come : S → List Span → Type 0) (kind : TableKind V X Y D) (tell : Answer → Y)
    (told : Span → X) → ToldLaws kind tell told → (version : V) (spans : S) (comparison : Comparison S D M)
    (at : Position) (answered : ℕ) (passed list : List Span) (records : List Fields) → IsPast to_come spans comparison at answered
    → to_come spans list → AreInOrder (passed ++ list) → at ≡ end_of passed → answered ≡ addresses_of passed
    → AllZip (kind.format.Says version) records (map told passed)
    → Judges to_come kind tell version comparison (passed ++ list) (kind.format.names version ∷ records)
judges_past to_come kind tell told laws version spans comparison at answered passed list records past coming order ends counted
    each = record {
      table = map told passed;
      is_table = (refl, record { each = each; in_order = laws.order passed (prefix_in_order number_spans passed list order) });
      at = past.at_is ∙ ends ∙ sym (laws.ends passed);
      merged = past_merged to_come kind tell told laws spans comparison at answered passed list past coming order ends counted;
    }

-- after the header alone
pub judges_none : {S D M V X Y : Type 0} (to_come : S → List Span → Type 0) (kind : TableKind V X Y D) (tell : Answer → Y)
    (told : Span → X) → ToldLaws kind tell told → (version : V) (spans : S) (comparison : Comparison S D M)
    (list : List Span) → IsPast to_come spans comparison (record { address = 0; op = 0 }) 0 → to_come spans list → AreInOrder list
    → Judges to_come kind tell version comparison list (kind.format.names version ∷ [])
judges_none to_come kind tell told laws version spans comparison list past coming order =
    judges_past to_come kind tell told laws version spans comparison _ 0 [] list [] past coming order refl refl tt

pub passed_past : {S D M V X Y : Type 0} (to_come : S → List Span → Type 0) (kind : TableKind V X Y D) (plain : LineFormat V X)
    (tell : Answer → Y) (told : Span → X) → ToldLaws kind tell told → (version : V) (spans : S)
    (comparison : Comparison S D M) (list table : List Span) (text : List ℕ) (count : ℕ) (at : Position) (answered : ℕ)
    → IsPast to_come spans comparison at answered → AreLinesOf kind.format plain told version text table count at
    → LeaveOff tell (to_come spans) list table → answered ≡ addresses_of table
    → HasPassed to_come kind plain tell version comparison list text count
passed_past to_come kind plain tell told laws version spans comparison list table text count at answered past lines off counted = record {
  records = lines.lines.records;
  count = lines.lines.count_is;
  text_is = lines.lines.text_is;
  list = table ++ off.rest;
  alike = off.same;
  judged = judges_past to_come kind tell told laws version spans comparison at answered table off.rest lines.lines.records past off.left
      off.order lines.end_is counted lines.lines.each;
}

-- ---- more records, each on a line of its own

pub lines_none : {C V X : Type 0} (format : TableFormat V X) (plain : LineFormat V X) (version : V)
    (judges : C → List Span → List Fields → Type 0) (state : C) (next : ℕ)
    → HasTakenLines format plain version judges state state [] next next
lines_none format plain version judges state next = record {
  spans = [];
  count = 1;
  lines = record { records = []; text_is = refl; each = tt; count_is = refl };
  number = refl;
  judged = λ section passed j. subst (judges state section) (sym (append-nil passed)) j;
}

pub lines_taken : {C V X : Type 0} (format : TableFormat V X) (plain : LineFormat V X) (version : V)
    (judges : C → List Span → List Fields → Type 0) (first old new : C) (text bytes rest : List ℕ) (before next after : ℕ) (span : X)
    → HasTakenLines format plain version judges first old text before next → (line : IsLineIn format plain version span bytes rest)
    → ((section : List Span) (passed : List Fields) → judges old section passed → judges new section (passed ++ line.fields ∷ []))
    → after ≡ next + 1 → HasTakenLines format plain version judges first new (text ++ plain.line line.fields) before after
lines_taken format plain version judges first old new text bytes rest before next after span h line more is = record {
  spans = h.spans ++ span ∷ [];
  count = h.count + 1;
  lines = record {
    records = h.lines.records ++ line.fields ∷ [];
    text_is = ap (λ (t : List ℕ). t ++ plain.line line.fields) h.lines.text_is
        ∙ ap (λ (t : List ℕ). lines_of plain.line h.lines.records ++ t) (sym (append-nil (plain.line line.fields)))
        ∙ sym (lines_append plain.line h.lines.records (line.fields ∷ []));
    each = zip_push (format.Says version) h.lines.records h.spans line.fields span h.lines.each line.says;
    count_is = omega (arith, h.lines.count_is, length-append h.lines.records (line.fields ∷ []));
  };
  number = omega (arith, h.number, is);
  judged = λ section passed j. subst (judges new section) (append_assoc passed h.lines.records (line.fields ∷ []))
      (more section (passed ++ h.lines.records) (h.judged section passed j));
}

pub passed_more : {S D M V X Y : Type 0} (to_come : S → List Span → Type 0) (kind : TableKind V X Y D) (plain : LineFormat V X)
    (tell : Answer → Y) (version : V) (old new : Comparison S D M) (section : List Span) (text more : List ℕ)
    (before after : ℕ) → HasPassed to_come kind plain tell version old section text before
    → HasTakenLines kind.format plain version (Judges to_come kind tell version) old new more before after
    → HasPassed to_come kind plain tell version new section (text ++ more) after
passed_more to_come kind plain tell version old new section text more before after h taken = record {
  records = h.records ++ taken.lines.records;
  count = omega (arith, h.count, taken.number, taken.lines.count_is, length-append h.records taken.lines.records);
  text_is = ap (λ (t : List ℕ). t ++ more) h.text_is ∙ ap (λ (t : List ℕ). lines_of plain.line h.records ++ t) taken.lines.text_is
      ∙ sym (lines_append plain.line h.records taken.lines.records);
  list = h.list;
  alike = h.alike;
  judged = taken.judged h.list (kind.format.names version ∷ h.records) h.judged;
}

-- ---- what is told

pub outcome_told : {S D V X Y : Type 0} (M : Type 0) (to_come : S → List Span → Type 0) (kind : TableKind V X Y D) (tell : Answer → Y)
    (version : V) (list : List Span) (passed : List Fields) (bytes : List ℕ) (section : V → Position → Option Y)
    (scope : Scope) (outcome : Outcome D) → ((p : Position) → answer_told tell list p ≡ section version p)
    → HasCompared {M = M} scope to_come tell kind.stretch (Judges to_come kind tell version) (IsFaultIn kind.format) list passed bytes
    outcome → IsOutcomeOf kind scope section bytes outcome
outcome_told M to_come kind tell version list passed bytes section scope (Fault told) same h = h
outcome_told M to_come kind tell version list passed bytes section scope (Table judged) same h = record {
  version = version;
  table = h.records.table;
  is_table = (passed ++ h.more, h.all, h.records.is_table);
  so = judged_of_same scope kind.stretch (answer_held kind.spans h.records.table) (answer_told tell list) (section version) judged same
      (h.judged_is (answer_held kind.spans h.records.table) h.records.merged);
}
