-- Tables that are right wherever they answer, and how much of a section they answer.
use Rattle.std.proofs.Common.{◌≡◌, ◌∙◌, ℕ, List, [], Option, None, inl, inr, refl, sym}
use Rattle.lnt_header.specs.declared.unit_parts.UnitParts.{UnitParts}
use Rattle.lnt_spans.specs.declared.answer.Version.{Version}
use Rattle.lnt_spans.specs.declared.position.Position.{Position}
use Rattle.lnt_spans.specs.Laws.{AnswerAlike}
use Rattle.lnt_spans.specs.Partial.{addresses_answered, AreCounts, IsRightWherever, where_answered}
use Rattle.lnt_spans.specs.SpanKinds.{answer_held}
use Rattle.lnt_spans.proofs.PartialLemmas.{empty_table, whole_table}
use Rattle.lnt_records.specs.PathTables.{by_path}
use Rattle.lnt_records.specs.Table.{IsTableOfIn, by_number, column_names}
use Rattle.lnt_records.specs.PathTables.{path_column_names}
use Rattle.lnt_records.specs.declared.path_records.version.PathVersion.{PathVersion}
use Rattle.lnt_records.proofs.BeginningLaws.{one_beginning, table_begins}
use Rattle.lnt_compare.specs.Comparisons.{IsTableWhere, TableKind, tables_by_number}
use Rattle.lnt_compare.specs.Outcomes.{tables_by_path}
use Rattle.lnt_compare.specs.declared.outcome.Compared.TheVariants.{Same}
use Rattle.lnt_lines.specs.declared.options.Options.{Options}
use Rattle.lnt_lines.specs.Good.{IsGood}
use Rattle.lnt_table.specs.declared.kinds.OfKind.TheVariants.{Numbered, ByPath}
use Rattle.lnt_table.specs.declared.verdict.Verdict.TheVariants.{Yes}
use Rattle.lnt_table.specs.AnyVersion.{IsRightOf, IsTrueCheck, told_paths}
use Rattle.lnt_table.specs.Headline.{told_rows}
use Rattle.lnt_table.specs.Laws.{EmptyIsCovered, IsCovered, YesIsCovered}
use Rattle.lnt_table.proofs.AnyLawLemmas.{names_differ}

-- ---- one table

-- how many addresses answer
all_of : {X : Type 0} → (Position → Option X) → ℕ
all_of answers = addresses_answered answers

both_of : {X : Type 0} → (Position → Option X) → (Position → Option X) → ℕ
both_of by_table by_section = addresses_answered (where_answered by_table by_section)

counted : {X : Type 0} (by_table by_section : Position → Option X)
    → AreCounts by_table by_section (both_of by_table by_section) (all_of by_section)
unfolding both_of all_of
counted by_table by_section = record { both = refl; section = refl }

-- a table that answers as the section does
whole_counts : {X : Type 0} (by_table by_section : Position → Option X) → AnswerAlike by_section by_table
    → IsRightWherever by_table by_section × AreCounts by_table by_section (all_of by_section) (all_of by_section)
whole_counts by_table by_section alike =
    let here = counted by_table by_section in
    let so = whole_table by_table by_section (both_of by_table by_section) (all_of by_section) alike here in
    (so.0, record { both = sym so.1 ∙ here.both; section = here.section })

-- one that never answers
empty_counts : {X : Type 0} (by_table by_section : Position → Option X) → ((p : Position) → by_table p ≡ None)
    → IsRightWherever by_table by_section × AreCounts by_table by_section 0 (all_of by_section)
empty_counts by_table by_section none =
    let here = counted by_table by_section in
    let so = empty_table by_table by_section (both_of by_table by_section) (all_of by_section) none here in
    (so.0, record { both = sym so.1 ∙ here.both; section = here.section })

-- ---- a table of a kind

whole_of_kind : {V X Y D : Type 0} (kind : TableKind V X Y D) (answers : V → Position → Option Y) (bytes : List ℕ)
    → (h : IsTableWhere kind.format (answer_held kind.spans) answers bytes (λ by_section by_table. AnswerAlike by_section by_table))
    → IsRightOf kind answers bytes (record { answered = all_of (answers h.version); all = all_of (answers h.version) })
whole_of_kind kind answers bytes h = record {
  version = h.version;
  table = h.table;
  is_table = h.is_table;
  so = whole_counts (answer_held kind.spans h.table) (answers h.version) h.so;
}

empty_of_kind : {V X Y D : Type 0} (kind : TableKind V X Y D) (answers : V → Position → Option Y) (bytes : List ℕ) (version : V)
    → IsTableOfIn kind.format version bytes []
    → IsRightOf kind answers bytes (record { answered = 0; all = all_of (answers version) })
empty_of_kind kind answers bytes version t = record {
  version = version;
  table = [];
  is_table = t;
  so = empty_counts (answer_held kind.spans []) (answers version) (λ p. refl);
}

-- ---- with a section

yes_numbered : (line general : List ℕ) (options : Options) (section table : List ℕ)
    → IsTrueCheck line general options section table (Numbered Yes) → IsCovered line general options section table (λ all. all)
yes_numbered line general options section table h = (
  all_of (told_rows options h.0.units h.0.so.version),
  inl (record {
    units = h.0.units;
    good = h.0.good;
    so = whole_of_kind tables_by_number (told_rows options h.0.units) table h.0.so;
  }),
)

yes_by_path : (line general : List ℕ) (options : Options) (section table : List ℕ)
    → IsTrueCheck line general options section table (ByPath Same) → IsCovered line general options section table (λ all. all)
yes_by_path line general options section table h = (
  all_of (told_paths line general options h.1.units h.1.so.version),
  inr (
    h.0,
    record {
      units = h.1.units;
      good = h.1.good;
      so = whole_of_kind tables_by_path (told_paths line general options h.1.units) table h.1.so;
    },
  ),
)

pub yes_is_covered : YesIsCovered
yes_is_covered = record { numbered = yes_numbered; by_path = yes_by_path }

empty_numbered : (line general : List ℕ) (options : Options) (section table : List ℕ) (units : List (ℕ × UnitParts)) (version : Version)
    → IsGood line general options section units → IsTableOfIn by_number version table []
    → IsCovered line general options section table (λ all. 0)
empty_numbered line general options section table units version good t = (
  all_of (told_rows options units version),
  inl (record { units = units; good = good; so = empty_of_kind tables_by_number (told_rows options units) table version t }),
)

empty_by_path : (line general : List ℕ) (options : Options) (section table : List ℕ) (units : List (ℕ × UnitParts))
    (version : PathVersion) → IsGood line general options section units → IsTableOfIn by_path version table []
    → IsCovered line general options section table (λ all. 0)
empty_by_path line general options section table units version good t = (
  all_of (told_paths line general options units version),
  inr (
    λ v begins. names_differ v version
        (one_beginning table (column_names v) (path_column_names version) begins (table_begins by_path table version [] t)),
    record { units = units; good = good; so = empty_of_kind tables_by_path (told_paths line general options units) table version t },
  ),
)

pub empty_is_covered : EmptyIsCovered
empty_is_covered = record { numbered = empty_numbered; by_path = empty_by_path }
