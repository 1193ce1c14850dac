-- Which answers of `check_any` can be true of one section and one table.
use Rattle.std.proofs.Common.{◌≡◌, ◌≢◌, ◌∙◌, ℕ, List, Option, length, refl, sym, ap, arith}
use Rattle.lnt_header.specs.declared.unit_parts.UnitParts.{UnitParts}
use Rattle.lnt_spans.specs.declared.answer.Answer.{Answer}
use Rattle.lnt_spans.specs.declared.answer.Version.{Version}
use Rattle.lnt_spans.specs.declared.answer.Version.TheVariants.{One, Two}
use Rattle.lnt_spans.specs.declared.difference.Difference.{Difference}
use Rattle.lnt_spans.specs.declared.position.Position.{Position}
use Rattle.lnt_records.specs.declared.fault.TableFault.TheVariants as fault
use Rattle.lnt_compare.specs.declared.outcome.Compared.{Compared}
use Rattle.lnt_compare.specs.declared.outcome.Compared.TheVariants.{Same, Fault, Differs}
use Rattle.lnt_compare.specs.Comparisons.{IsComparisonOf, tables_by_number}
use Rattle.lnt_records.specs.Faults.{IsUnnumbered}
use Rattle.lnt_records.proofs.BeginningLaws.{faulty_begins, one_beginning, table_begins}
use Rattle.lnt_records.specs.Table as numbered
use Rattle.lnt_records.specs.Table.{column_names}
use Rattle.lnt_records.specs.declared.path_records.version.PathVersion.{PathVersion}
use Rattle.lnt_records.specs.declared.path_records.version.PathVersion.TheVariants.{Three, Four}
use Rattle.lnt_records.specs.PathTables as pathed
use Rattle.lnt_records.specs.PathTables.{path_column_names}
use Rattle.lnt_writing.specs.Canonical.{IsCanonicalPathTable}
use Rattle.lnt_lines.specs.declared.options.Options.{Options}
use Rattle.lnt_lines.specs.Good.{IsGood, selected}
use Rattle.lnt_lines.specs.Laws.{GoodHasNoFlaw}
use Rattle.lnt_table.specs.Verdicts.{Checked, verdict_of, Verdict}
use Rattle.lnt_table.specs.declared.kinds.OfKind.TheVariants.{Numbered, ByPath}
use Rattle.lnt_table.specs.AnyVersion.{IsTrueCheck}
use Rattle.lnt_table.specs.Headline.{answer_by_path, told_rows}
use Rattle.lnt_table.specs.Laws.{OneNumbered, OneVerdict, OwnTableByPath}
use Rattle.lnt_table.proofs.OneVerdictLemmas.{Kind, kind_of}
use Rattle.lnt_table.proofs.OneVerdictLemmas.Kind.{bad, compared}

-- ---- a verdict

-- bytes that were compared by number begin with the header of version 1 or 2
headed : (section : Version → Position → Option Answer) (table : List ℕ) (told : Compared Difference)
    → IsComparisonOf tables_by_number section table told → told ≢ Fault fault.Header → IsUnnumbered table → ⊥
headed section table Same h other none = none h.version (table_begins numbered.by_number table h.version h.table h.is_table)
headed section table (Fault fault.Header) h other none = other refl
headed section table (Fault (fault.Fields n)) h other none =
    none h.version (faulty_begins numbered.by_number table (fault.Fields n) h)
headed section table (Fault (fault.Number n i)) h other none =
    none h.version (faulty_begins numbered.by_number table (fault.Number n i) h)
headed section table (Fault (fault.Order n)) h other none =
    none h.version (faulty_begins numbered.by_number table (fault.Order n) h)
headed section table (Differs difference) h other none =
    none h.version (table_begins numbered.by_number table h.version h.table h.is_table)

by_number : OneVerdict → GoodHasNoFlaw
    → (line general : List ℕ) (options : Options) (section table : List ℕ) (verdict : Verdict) (checked : Checked)
    → IsTrueCheck line general options section table (Numbered verdict) → IsTrueCheck line general options section table checked
    → checked ≡ Numbered verdict
by_number verdicts flawless line general options section table verdict (Numbered other) h k =
    ap Numbered (verdicts.one line general options section table other verdict k.0 h.0)
by_number verdicts flawless line general options section table verdict (ByPath told) h k =
    absurd (by_kind (kind_of line general options section table verdict h.0))
  where
    by_kind : Kind line general options section table verdict → ⊥
    by_kind (bad reason e is) = flawless line general options section k.1.units reason k.1.good is
    by_kind (compared told e is) =
        headed (told_rows options is.units) table told is.so (λ same. h.1 (e ∙ ap verdict_of same)) k.0

pub one_numbered : OneVerdict → GoodHasNoFlaw → OneNumbered
one_numbered verdicts flawless = record { one = by_number verdicts flawless }

-- ---- a section's own table by path

pub names_differ : (version : Version) (by_path : PathVersion) → column_names version ≡ path_column_names by_path → ⊥
names_differ One Three e = let count = ap length e in omega (arith, count)
names_differ One Four e = let count = ap length e in omega (arith, count)
names_differ Two Three e = let count = ap length e in omega (arith, count)
names_differ Two Four e = let count = ap length e in omega (arith, count)

own : (line general : List ℕ) (options : Options) (section table : List ℕ) (units : List (ℕ × UnitParts)) (version : PathVersion)
    → IsGood line general options section units
    → IsCanonicalPathTable version (answer_by_path version line general (selected options units)) table
    → IsTrueCheck line general options section table (ByPath Same)
own line general options section table units version good w = (
  λ v begins.
      names_differ v version
      (one_beginning table (column_names v) (path_column_names version) begins (table_begins pathed.by_path table version w.spans w.table)),
  record {
    units = units;
    good = good;
    so = record { version = version; table = w.spans; is_table = w.table; so = λ p. sym (w.canonical.same p) };
  },
)

none_numbered : (verdict : Verdict) → ◌≡◌ {A = Checked} (ByPath Same) (Numbered verdict) → ⊥
none_numbered verdict e = cc

pub own_table_by_path : OneNumbered → OwnTableByPath
own_table_by_path numbers = record {
  same = own;
  no_verdict = λ line general options section table units version verdict good w v.
      none_numbered verdict
      (numbers.one line general options section table verdict (ByPath Same) v
      (own line general options section table units version good w));
}
