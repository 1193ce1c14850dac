-- What asking the live sequences for the answers of a table says of the table and of the section.
use Rattle.std.proofs.Common.{◌≡◌, ◌≢◌, ℕ, List, [], ◌∷◌, Option, Some, IfSome, inl, inr, refl, sym, subst, option_map}
use Rattle.std.proofs.Common.{Result, Ok, Err}
use Rattle.std.proofs.lemmas.Option.{IfSome_then, same_Some}
use Rattle.lnt_spans.specs.declared.answer.Answer.{Answer}
use Rattle.lnt_spans.specs.declared.answer.Version.{Version}
use Rattle.lnt_spans.specs.declared.difference.Difference.{Difference}
use Rattle.lnt_spans.specs.declared.position.Position.{Position}
use Rattle.lnt_spans.specs.Answers.{in_version}
use Rattle.lnt_spans.specs.Differences.{stretch_of}
use Rattle.lnt_spans.specs.Spans.{span_answer}
use Rattle.lnt_sequences.specs.Copies.{IsAnyAnswer}
use Rattle.lnt_sequences.specs.Sequences.{line_answer, Selection}
use Rattle.lnt_records.specs.declared.path_records.version.PathVersion.{PathVersion}
use Rattle.lnt_records.specs.declared.fault.TableFault.{TableFault}
use Rattle.lnt_records.specs.Faults.{IsFault}
use Rattle.lnt_records.specs.PathSpans.{path_answer, path_span_answer, PathSpan}
use Rattle.lnt_records.specs.PathTables.{by_path}
use Rattle.lnt_records.specs.Table.{BeginsWith, by_number, column_names, IsTableOfIn}
use Rattle.lnt_records.proofs.BeginningLaws.{one_beginning, table_begins}
use Rattle.lnt_records.proofs.NumberLaws.{numbered}
use Rattle.lnt_compare.specs.declared.path_tables.answer.DifferenceByPath.{DifferenceByPath}
use Rattle.lnt_compare.specs.Comparisons.{in_versions, IsTableWhere}
use Rattle.lnt_compare.specs.Outcomes.{Outcome}
use Rattle.lnt_compare.specs.PathStretches.{stretch_of as path_stretch_of}
use Rattle.lnt_records.specs.declared.fault.TableFault.TheVariants as fault
use Rattle.lnt_lines.specs.declared.options.Options.{Options}
use Rattle.lnt_lines.specs.Good.{selected}
use Rattle.lnt_lines.specs.Indexed.{Indexed, IsIndexOf}
use Rattle.lnt_lines.specs.Judging.{IsIndexOfSection, IsIndexWithCopies}
use Rattle.lnt_spans.specs.declared.scope.Coverage.{Coverage}
use Rattle.lnt_compare.specs.declared.outcome.TableRead.TheVariants.{Fault, Table}
use Rattle.lnt_table.specs.declared.kinds.OfKind.TheVariants.{ByPath, Numbered}
use Rattle.lnt_table.specs.declared.within.CheckedWithin.{CheckedWithin}
use Rattle.lnt_spans.specs.declared.scope.Scope.{Scope}
use Rattle.lnt_spans.specs.declared.scope.Scope.TheVariants.{All, Answered}
use Rattle.lnt_table.specs.AnyCopy.{IsTrueOfAny}
use Rattle.lnt_table.specs.Asked.{IsAsked, OfLive}
use Rattle.lnt_table.specs.AskedTables.{IsAskedOf, IsReadByNumber, IsReadByPath}
use Rattle.lnt_table.specs.Headline.{indexed_path, path_at, told_path}
use Rattle.lnt_table.specs.Judged.{JudgedOfKind, told_in}
use Rattle.lnt_table.proofs.AskedLemmas.{asked_told}
use Rattle.lnt_table.proofs.JudgedLemmas.{of_section}
use Rattle.lnt_table.proofs.UnitPathLemmas.{same_answer}

told_of : (scope : Scope) (line general : List ℕ) (options : Options) (section table : List ℕ) (index : Indexed) (told : JudgedOfKind)
    → (i : IsIndexOfSection line general options section index)
    → IsAskedOf (record index { line = line; general = general }) (selected options i.units) scope table told
    → IsTrueOfAny scope line general options section table (told_in scope told)
told_of scope line general options section table index (Numbered (Fault fault.Header)) i h = absurd (h.1 refl)
told_of scope line general options section table index (Numbered (Fault (fault.Fields k))) i h =
    (record { units = i.units; good = i.good; so = h.0 }, λ e. cc e)
told_of scope line general options section table index (Numbered (Fault (fault.Number k n))) i h =
    (record { units = i.units; good = i.good; so = h.0 }, λ e. cc e)
told_of scope line general options section table index (Numbered (Fault (fault.Order k))) i h =
    (record { units = i.units; good = i.good; so = h.0 }, λ e. cc e)
told_of scope line general options section table index (Numbered (Table (Err wrong))) i h =
    record { units = i.units; good = i.good; so = h.0 }
told_of All line general options section table index (Numbered (Table (Ok coverage))) i h = (
  refl,
  record {
    units = i.units;
    good = i.good;
    so = record { version = h.0.version; table = h.0.table; is_table = h.0.is_table; so = h.0.so.0 };
  },
)
told_of Answered line general options section table index (Numbered (Table (Ok coverage))) i h =
    (refl, inl (record { units = i.units; good = i.good; so = h.0 }))
told_of scope line general options section table index (ByPath (Fault told)) i h =
    (h.0, record { units = i.units; good = i.good; so = h.1 })
told_of scope line general options section table index (ByPath (Table (Err wrong))) i h =
    (h.0, record { units = i.units; good = i.good; so = h.1 })
told_of All line general options section table index (ByPath (Table (Ok coverage))) i h = (
  refl,
  h.0,
  record {
    units = i.units;
    good = i.good;
    so = record { version = h.1.version; table = h.1.table; is_table = h.1.is_table; so = h.1.so.0 };
  },
)
told_of Answered line general options section table index (ByPath (Table (Ok coverage))) i h =
    (refl, inr (h.0, record { units = i.units; good = i.good; so = h.1 }))

pub any_told : (scope : Scope) (line general : List ℕ) (options : Options) (section table : Option (List ℕ)) (index : Indexed)
    (told : JudgedOfKind) (checked : CheckedWithin) → IfSome section (λ bytes. IsIndexWithCopies line general options bytes index)
    → OfLive index (λ selection. IfSome table (λ text. IsAskedOf index selection scope text told)) → checked ≡ told_in scope told
    → IfSome section (λ bytes. IfSome table (λ text. IsTrueOfAny scope line general options bytes text checked))
any_told scope line general options section table index told checked i h is_told =
    IfSome_then section i (λ bytes is. IfSome_then table (h (selected options is.indexed.units) is.indexed.index_is is.live)
    (λ text asked. rw is_told
    (told_of scope line general options bytes text index told is.indexed
    (of_section line general options bytes index (λ own. IsAskedOf own (selected options is.indexed.units) scope text told) is.indexed
    asked))))

-- ---- a table of one kind

abbrev faulty : TableFault → Outcome Difference
faulty told = Fault told

pub not_header : (text : List ℕ) (version : Version) (told : TableFault) → BeginsWith text (column_names version ∷ []) → IsFault text told
    → faulty told ≢ faulty fault.Header
not_header text version fault.Header begins h = absurd (h version begins)
not_header text version (fault.Fields k) begins h = λ e. cc e
not_header text version (fault.Number k n) begins h = λ e. cc e
not_header text version (fault.Order k) begins h = λ e. cc e

pub numbers_read : (selection : Selection) (scope : Scope) (text : List ℕ) (version : Version) (asked : Result Coverage Difference)
    (HasFound : (Position → Option Answer) → (Position → Option Answer) → Type 0) → BeginsWith text (column_names version ∷ [])
    → IsTableWhere by_number span_answer (in_versions (line_answer selection)) text HasFound
    → ((f g : Position → Option Answer) → ((p : Position) → f p ≡ option_map (in_version version) (line_answer selection p))
    → HasFound f g → IsAsked scope stretch_of (IsAnyAnswer (in_version version) selection) f g asked)
    → IsReadByNumber selection scope text (Table asked)
numbers_read selection scope text version asked HasFound begins h asks =
    let same : h.version ≡ version = numbered.one_version h.version version
    (one_beginning text (column_names h.version) (column_names version)
    (table_begins by_number text h.version h.table h.is_table) begins) in (
      record {
        version = version;
        table = h.table;
        is_table = subst (λ (v : Version). IsTableOfIn by_number v text h.table) same h.is_table;
        so = asks (in_versions (line_answer selection) version) (span_answer h.table) (λ p. refl)
            (subst (λ (v : Version). HasFound (in_versions (line_answer selection) v) (span_answer h.table)) same h.so);
      },
      λ e. cc e,
    )

pub paths_read : (index : Indexed) (selection : Selection) (scope : Scope) (text : List ℕ) (version : PathVersion)
    (spans : List PathSpan) (asked : Result Coverage DifferenceByPath) → IsIndexOf selection index → IsTableOfIn by_path version text spans
    → IsAsked scope path_stretch_of (IsAnyAnswer (path_answer version (indexed_path index)) selection)
    (told_path version index selection) (path_span_answer spans) asked
    → IsReadByPath index selection scope text (Table asked)
paths_read index selection scope text version spans asked is held asks = record {
  version = version;
  table = spans;
  is_table = held;
  so = asked_told scope path_stretch_of (path_answer version (indexed_path index))
      (path_answer version (path_at index.line index.general selection.units)) selection (told_path version index selection)
      (path_span_answer spans) asked
      (λ answer. same_Some (path_answer version (indexed_path index) answer)
      (path_answer version (path_at index.line index.general selection.units) answer)
      (same_answer version index selection is (Some answer)))
      asks;
}

-- the answers of the section, as the index tells them
pub told_as : (version : PathVersion) (index : Indexed) (selection : Selection) → IsIndexOf selection index → (p : Position)
    → told_path version index selection p ≡ option_map (path_answer version (indexed_path index)) (line_answer selection p)
told_as version index selection is p = sym (same_answer version index selection is (line_answer selection p))
