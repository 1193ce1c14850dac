-- What the bodies of this crate say of a table of any version that is asked for. No public contract speaks of it.
use Rattle.std.specs.Prelude.{◌≢◌, ℕ, List, Option}
use Rattle.lnt_spans.specs.declared.difference.Difference.{Difference}
use Rattle.lnt_spans.specs.declared.position.Position.{Position}
use Rattle.lnt_spans.specs.Answers.{in_version}
use Rattle.lnt_sequences.specs.Copies.{IsAnyAnswer}
use Rattle.lnt_sequences.specs.Sequences.{line_answer, Selection}
use Rattle.lnt_records.specs.declared.fault.TableFault.TheVariants as fault
use Rattle.lnt_records.specs.Faults.{IsFaultIn, IsUnnumbered}
use Rattle.lnt_records.specs.PathSpans.{path_answer}
use Rattle.lnt_compare.specs.declared.path_tables.answer.DifferenceByPath.{DifferenceByPath}
use Rattle.lnt_compare.specs.Comparisons.{in_versions, TableKind, tables_by_number}
use Rattle.lnt_compare.specs.Outcomes.{Outcome, tables_by_path}
use Rattle.lnt_lines.specs.Indexed.{Indexed}
use Rattle.lnt_compare.specs.declared.outcome.TableRead.TheVariants.{Fault, Table}
use Rattle.lnt_table.specs.declared.kinds.OfKind.TheVariants.{ByPath, Numbered}
use Rattle.lnt_spans.specs.declared.scope.Scope.{Scope}
use Rattle.lnt_table.specs.AnyCopy.{IsTableAmong}
use Rattle.lnt_table.specs.Asked.{IsAsked}
use Rattle.lnt_table.specs.Headline.{path_at, told_path}
use Rattle.lnt_table.specs.Judged.{JudgedOfKind}

-- The bytes are a table, and this is what asking for its answers comes to; or this is their first fault.
abbrev pub IsReadOf : {V X Y D : Type 0} → TableKind V X Y D → Scope → (V → Position → Option Y → Type 0) → (V → Position → Option Y)
    → List ℕ → Outcome D → Type 0
IsReadOf kind scope said section bytes (Fault told) = IsFaultIn kind.format bytes told
IsReadOf kind scope said section bytes (Table asked) = IsTableAmong kind said section bytes
    (λ said by_section by_table. IsAsked scope kind.stretch said by_section by_table asked)

-- a table by number with the header of version 1 or 2
abbrev pub IsReadByNumber : Selection → Scope → List ℕ → Outcome Difference → Type 0
IsReadByNumber selection scope table read =
    IsReadOf tables_by_number scope (λ version. IsAnyAnswer (in_version version) selection) (in_versions (line_answer selection)) table read
    × (read ≢ Fault fault.Header)

-- a table by path
abbrev pub IsReadByPath : Indexed → Selection → Scope → List ℕ → Outcome DifferenceByPath → Type 0
IsReadByPath index selection scope table read = IsReadOf tables_by_path scope
    (λ version. IsAnyAnswer (path_answer version (path_at index.line index.general selection.units)) selection)
    (λ version. told_path version index selection) table read

abbrev pub IsAskedOf : Indexed → Selection → Scope → List ℕ → JudgedOfKind → Type 0
IsAskedOf index selection scope table (Numbered read) = IsReadByNumber selection scope table read
IsAskedOf index selection scope table (ByPath read) = IsUnnumbered table × IsReadByPath index selection scope table read
