-- What a table of any version is judged to be is true of the table and of a good section.
use Rattle.std.proofs.Common.{◌≡◌, ◌≢◌, ◌-◌, ◌++◌, ℕ, List, [], Option, IfSome, arith, inl, inr, refl, subst, Ok, Err}
use Rattle.lnt_spans.specs.Partial.{addresses_answered, AreCounts, where_missed}
use Rattle.lnt_spans.proofs.PartialLemmas.{answered_and_missed}
use Rattle.std.proofs.lemmas.Option.{IfSome_then}
use Rattle.lnt_spans.specs.declared.difference.Difference.{Difference}
use Rattle.lnt_spans.specs.declared.position.Position.{Position}
use Rattle.lnt_spans.specs.declared.span.Span.{Span}
use Rattle.lnt_spans.specs.Spans.{span_answer}
use Rattle.lnt_sequences.specs.Sequences.{line_answer, Selection}
use Rattle.lnt_records.specs.declared.fault.TableFault.TheVariants as fault
use Rattle.lnt_compare.specs.Outcomes.{IsOutcome, IsPathOutcome, Outcome, tables_by_path}
use Rattle.lnt_compare.specs.declared.outcome.Compared.{Compared}
use Rattle.lnt_compare.specs.declared.outcome.Compared.TheVariants as compared
use Rattle.lnt_compare.specs.declared.outcome.TableRead.TheVariants.{Fault, Table}
use Rattle.lnt_compare.specs.Comparisons.{in_versions, tables_by_number}
use Rattle.lnt_records.specs.Faults.{IsUnnumbered}
use Rattle.lnt_compare.specs.Passing.{Passes}
use Rattle.lnt_records.specs.Table.{by_number, column_names}
use Rattle.lnt_records.specs.Written.{line_text, plain_by_number}
use Rattle.lnt_records.proofs.LineLaws as lines
use Rattle.lnt_records.proofs.WriteLaws.{plain_numbers}
use Rattle.lnt_spans.specs.declared.answer.Version.{Version}
use Rattle.lnt_records.proofs.BeginningLaws.{one_beginning}
use Rattle.lnt_compare.proofs.ComparedLaws.{outcome_of_alike}
use Rattle.lnt_compare.proofs.StreamLaws.{line_taken, not_header}
use Rattle.lnt_compare.specs.declared.path_tables.answer.DifferenceByPath.{DifferenceByPath}
use Rattle.lnt_records.specs.declared.path_records.version.PathVersion.{PathVersion}
use Rattle.lnt_records.specs.PathSpans.{spans_by_path}
use Rattle.lnt_records.specs.PathTables.{path_column_names}
use Rattle.lnt_records.proofs.PathLineLaws.{header_begins}
use Rattle.lnt_lines.specs.declared.no.No.{No as SectionNo}
use Rattle.lnt_lines.specs.declared.options.Options.{Options}
use Rattle.lnt_lines.specs.Judging.{IsIndexOfSection}
use Rattle.lnt_lines.specs.Good.{selected}
use Rattle.lnt_lines.specs.Indexed.{Indexed, IsIndexOf, OfUnits}
use Rattle.lnt_table.specs.Verdicts.{verdict_of}
use Rattle.lnt_table.specs.declared.kinds.OfKind.TheVariants.{Numbered, ByPath}
use Rattle.lnt_table.specs.declared.verdict.TableNo.TheVariants as no
use Rattle.lnt_table.specs.declared.verdict.Verdict.TheVariants.{No}
use Rattle.lnt_table.specs.declared.within.CheckedWithin.{CheckedWithin}
use Rattle.lnt_table.specs.declared.within.CheckedWithin.TheVariants.{Checked as Told, Covered}
use Rattle.lnt_spans.specs.declared.scope.Coverage.{Coverage}
use Rattle.lnt_spans.specs.declared.scope.Scope.{Scope}
use Rattle.lnt_spans.specs.declared.scope.Scope.TheVariants.{All, Answered}
use Rattle.lnt_table.specs.AnyVersion.{IsOfScope, IsTrueOfSectionWithin, IsTrueWithin}
use Rattle.lnt_table.specs.Headline.{indexed_path, told_path}
use Rattle.lnt_table.specs.Judged.{IsJudgedWith, JudgedOfKind, told_in}
use Rattle.lnt_table.proofs.AnyLawLemmas.{names_differ}
use Rattle.lnt_table.proofs.CheckLemmas.{none_of_section, section_told, same_in_version}
use Rattle.lnt_table.proofs.UnitPathLemmas.{told_by_units}

-- ---- how much is answered

-- of the section's addresses, the table answers at all but the missed ones
pub counts_of : {X : Type 0} (by_table by_section : Position → Option X) (all missed : ℕ) → all ≡ addresses_answered by_section
    → missed ≡ addresses_answered (where_missed by_table by_section) → AreCounts by_table by_section (all - missed) all
counts_of by_table by_section all missed section out =
    record { both = omega (arith, section, out, answered_and_missed by_table by_section); section = section }

-- ---- the comparison with an index

-- a table with the header of version 1 or 2
pub numbered_with : (bytes : List ℕ) (index : Indexed) (selection : Selection) (scope : Scope) (spans : List Span)
    (told : Outcome Difference) → ((p : Position) → span_answer spans p ≡ line_answer selection p)
    → IsOutcome scope bytes spans told × (told ≢ Fault fault.Header) → IsJudgedWith index selection scope bytes (Numbered told)
numbered_with bytes index selection scope spans told answers is = (
  outcome_of_alike tables_by_number scope bytes (in_versions (span_answer spans)) (in_versions (line_answer selection)) told
      (λ version. same_in_version version selection spans answers) is.0,
  is.1,
)

-- one with neither header
pub pathed_with : (bytes : List ℕ) (index : Indexed) (selection : Selection) (scope : Scope) (spans : List Span)
    (told : Outcome DifferenceByPath) → IsIndexOf selection index → IsUnnumbered bytes
    → ((p : Position) → span_answer spans p ≡ line_answer selection p)
    → IsPathOutcome scope bytes (λ version. spans_by_path version (indexed_path index) spans) told
    → IsJudgedWith index selection scope bytes (ByPath told)
pathed_with bytes index selection scope spans told is other answers h = (
  other,
  outcome_of_alike tables_by_path scope bytes (λ version. spans_by_path version (indexed_path index) spans)
      (λ version. told_path version index selection) told
      (λ version. told_by_units version index selection spans is answers) h,
)

-- The table's first line is a header of version 1 or 2, and this holds of its other bytes.
pub begun_by_number : (text more : Option (List ℕ)) (may_give may_still : ℕ) (first window : List ℕ) (version : Version) (index : Indexed)
    (selection : Selection) (scope : Scope) (spans : List Span) (told : Outcome Difference)
    → Passes text more may_give may_still [] first []
    → first ≡ line_text (column_names version) ++ window → ((p : Position) → span_answer spans p ≡ line_answer selection p)
    → IfSome more (λ rest. IsOutcome scope (line_text (column_names version) ++ (window ++ rest)) spans told)
    → IfSome text (λ bytes. IsJudgedWith index selection scope bytes (Numbered told))
begun_by_number text more may_give may_still first window version index selection scope spans told passes here answers h =
    let line : List ℕ = line_text (column_names version) in
    line_taken text more may_give may_still first line window (λ bytes. IsJudgedWith index selection scope bytes (Numbered told)) passes
    here (IfSome_then more h (λ rest o. numbered_with (line ++ (window ++ rest)) index selection scope spans told answers (
      o,
      not_header scope (line ++ (window ++ rest)) version spans told
          (lines.header_begins by_number plain_by_number plain_numbers version (window ++ rest)) o,
    )))

-- The same of a header of version 3 or 4.
pub begun_by_path : (text more : Option (List ℕ)) (may_give may_still : ℕ) (first window : List ℕ) (version : PathVersion) (index : Indexed)
    (selection : Selection) (scope : Scope) (spans : List Span) (told : Outcome DifferenceByPath)
    → IsIndexOf selection index → Passes text more may_give may_still [] first []
    → first ≡ line_text (path_column_names version) ++ window → ((p : Position) → span_answer spans p ≡ line_answer selection p)
    → IfSome more (λ rest. IsPathOutcome scope (line_text (path_column_names version) ++ (window ++ rest))
    (λ version. spans_by_path version (indexed_path index) spans) told)
    → IfSome text (λ bytes. IsJudgedWith index selection scope bytes (ByPath told))
begun_by_path text more may_give may_still first window version index selection scope spans told is passes here answers h =
    let line : List ℕ = line_text (path_column_names version) in
    line_taken text more may_give may_still first line window (λ bytes. IsJudgedWith index selection scope bytes (ByPath told)) passes
    here (IfSome_then more h (λ rest o. pathed_with (line ++ (window ++ rest)) index selection scope spans told is
    (λ v begins. names_differ v version (one_beginning (line ++ (window ++ rest)) (column_names v) (path_column_names version) begins
    (header_begins version (window ++ rest)))) answers o))

-- what is so of an index is so of one with the strings of the section, which are its own
pub of_section : (line general : List ℕ) (options : Options) (section : List ℕ) (index : Indexed) (IsSo : Indexed → Type 0)
    → IsIndexOfSection line general options section index → IsSo index → IsSo (record index { line = line; general = general })
of_section line general options section index IsSo i h =
    subst (λ (l : List ℕ). IsSo (record index { line = l; general = general })) i.line_is
    (subst (λ (g : List ℕ). IsSo (record index { general = g })) i.general_is h)

-- ---- what is told of it

within_told : (scope : Scope) (line general : List ℕ) (options : Options) (section table : List ℕ) (index : Indexed) (told : JudgedOfKind)
    → (i : IsIndexOfSection line general options section index)
    → IsJudgedWith (record index { line = line; general = general }) (selected options i.units) scope table told
    → IsTrueWithin scope line general options section table (told_in scope told)
within_told All line general options section table index (Numbered (Fault fault.Header)) i h = absurd (h.1 refl)
within_told Answered line general options section table index (Numbered (Fault fault.Header)) i h = absurd (h.1 refl)
within_told All line general options section table index (Numbered (Fault (fault.Fields k))) i h =
    (record { units = i.units; good = i.good; so = h.0 }, λ e. cc e)
within_told All line general options section table index (Numbered (Fault (fault.Number k n))) i h =
    (record { units = i.units; good = i.good; so = h.0 }, λ e. cc e)
within_told All line general options section table index (Numbered (Fault (fault.Order k))) i h =
    (record { units = i.units; good = i.good; so = h.0 }, λ e. cc e)
within_told All line general options section table index (Numbered (Table (Err first))) i h =
    (record { units = i.units; good = i.good; so = h.0 }, λ e. cc e)
within_told All line general options section table index (Numbered (Table (Ok coverage))) i h = (
  record {
    units = i.units;
    good = i.good;
    so = record { version = h.0.version; table = h.0.table; is_table = h.0.is_table; so = h.0.so.0 };
  },
  λ e. cc e,
)
within_told Answered line general options section table index (Numbered (Fault (fault.Fields k))) i h =
    (record { units = i.units; good = i.good; so = h.0 }, λ e. cc e)
within_told Answered line general options section table index (Numbered (Fault (fault.Number k n))) i h =
    (record { units = i.units; good = i.good; so = h.0 }, λ e. cc e)
within_told Answered line general options section table index (Numbered (Fault (fault.Order k))) i h =
    (record { units = i.units; good = i.good; so = h.0 }, λ e. cc e)
within_told Answered line general options section table index (Numbered (Table (Err mistake))) i h =
    record { units = i.units; good = i.good; so = h.0 }
within_told Answered line general options section table index (Numbered (Table (Ok coverage))) i h =
    inl (record { units = i.units; good = i.good; so = h.0 })
within_told All line general options section table index (ByPath (Fault told)) i h =
    (h.0, record { units = i.units; good = i.good; so = h.1 })
within_told All line general options section table index (ByPath (Table (Err first))) i h =
    (h.0, record { units = i.units; good = i.good; so = h.1 })
within_told All line general options section table index (ByPath (Table (Ok coverage))) i h = (
  h.0,
  record {
    units = i.units;
    good = i.good;
    so = record { version = h.1.version; table = h.1.table; is_table = h.1.is_table; so = h.1.so.0 };
  },
)
within_told Answered line general options section table index (ByPath (Fault told)) i h =
    (h.0, record { units = i.units; good = i.good; so = h.1 })
within_told Answered line general options section table index (ByPath (Table (Err mistake))) i h =
    (h.0, record { units = i.units; good = i.good; so = h.1 })
within_told Answered line general options section table index (ByPath (Table (Ok coverage))) i h =
    inr (h.0, record { units = i.units; good = i.good; so = h.1 })

-- the same for sources whose bytes are known
pub scope_told : (scope : Scope) (line general : List ℕ) (options : Options) (section table : Option (List ℕ)) (index : Indexed)
    (told : JudgedOfKind) (checked : CheckedWithin) → IfSome section (λ bytes. IsIndexOfSection line general options bytes index)
    → OfUnits index (λ selection. IfSome table (λ text. IsJudgedWith index selection scope text told)) → checked ≡ told_in scope told
    → IfSome section (λ bytes. IfSome table (λ text. IsTrueWithin scope line general options bytes text checked))
scope_told scope line general options section table index told checked i h is_told =
    IfSome_then section i (λ bytes is. IfSome_then table (h (selected options is.units) is.index_is)
    (λ text j. rw is_told
    (within_told scope line general options bytes text index told is
    (of_section line general options bytes index (λ own. IsJudgedWith own (selected options is.units) scope text told) is j))))

-- ---- of each answer about a table, whatever is true of it

-- What is so of what is said of a comparison in the scope, and of how much is answered, which only one scope asks for, is so of the answer.
answer_so : (IsSo : CheckedWithin → Scope → Type 0)
    → ((compared : Compared Difference) (scope : Scope) → IsSo (Told (Numbered (verdict_of compared))) scope)
    → ((compared : Compared DifferenceByPath) (scope : Scope) → IsSo (Told (ByPath compared)) scope)
    → ((coverage : Coverage) → IsSo (Covered coverage) Answered)
    → (scope : Scope) (told : JudgedOfKind) → IsSo (told_in scope told) scope
answer_so IsSo numbered by_path covered scope (Numbered (Fault told)) = numbered (compared.Fault told) scope
answer_so IsSo numbered by_path covered scope (Numbered (Table (Err wrong))) = numbered (compared.Differs wrong) scope
answer_so IsSo numbered by_path covered All (Numbered (Table (Ok coverage))) = numbered compared.Same All
answer_so IsSo numbered by_path covered Answered (Numbered (Table (Ok coverage))) = covered coverage
answer_so IsSo numbered by_path covered scope (ByPath (Fault told)) = by_path (compared.Fault told) scope
answer_so IsSo numbered by_path covered scope (ByPath (Table (Err wrong))) = by_path (compared.Differs wrong) scope
answer_so IsSo numbered by_path covered All (ByPath (Table (Ok coverage))) = by_path compared.Same All
answer_so IsSo numbered by_path covered Answered (ByPath (Table (Ok coverage))) = covered coverage

-- what it says of the section
pub section_within : (line general : List ℕ) (options : Options) (section : Option (List ℕ)) (index : Indexed)
    (scope : Scope) (told : JudgedOfKind) → IfSome section (λ bytes. IsIndexOfSection line general options bytes index)
    → IfSome section (λ bytes. IsTrueOfSectionWithin line general options bytes (told_in scope told))
section_within line general options section index scope told i =
    IfSome_then section i (λ bytes is. answer_so (λ checked _. IsTrueOfSectionWithin line general options bytes checked)
    (λ compared _. section_told line general options bytes index compared is) (λ compared _. (is.units, is.good))
    (λ coverage. (is.units, is.good)) scope told)

-- It has no reason of the section.
pub not_within : (scope : Scope) (told : JudgedOfKind) (reason : SectionNo)
    → told_in scope told ≡ Told (Numbered (No (no.Section reason))) → ⊥
not_within scope told reason = answer_so (λ checked _. checked ≡ Told (Numbered (No (no.Section reason))) → ⊥)
    (λ compared _ e. none_of_section compared reason cc) (λ compared _ e. cc e) (λ coverage e. cc e) scope told

-- only in the scope of answered positions it is said how much is answered
pub of_scope : (scope : Scope) (told : JudgedOfKind) → IsOfScope (told_in scope told) scope
of_scope = answer_so IsOfScope (λ compared scope. tt) (λ compared scope. tt) (λ coverage. tt)
