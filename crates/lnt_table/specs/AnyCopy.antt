-- What the answers of `check_any_copy` say of a section and an address table of any version: the table is right at a position if its
-- answer is that of any live sequence that holds it.
--     line, general    the bytes of .debug_line_str and of .debug_str
--     section, table   the bytes of .debug_line, and those of the address table
use Rattle.std.specs.Prelude.{◌≡◌, ◌≢◌, ◌⊎◌, ℕ, true, List, [], ◌∷◌, Option, None}
use Rattle.std.specs.List.{AllByRecursion}
use Rattle.lnt_header.specs.declared.unit_parts.UnitParts.{UnitParts}
use Rattle.lnt_spans.specs.declared.answer.Version.{Version}
use Rattle.lnt_spans.specs.declared.answer.Answer.{Answer}
use Rattle.lnt_spans.specs.declared.position.Position.{Position}
use Rattle.lnt_spans.specs.Answers.{in_version}
use Rattle.lnt_spans.specs.AnyStretches.{AreAnswers, AreRising, Stretch}
use Rattle.lnt_spans.specs.Partial.{AreCounts}
use Rattle.lnt_spans.specs.Positions.{IsAtMost, IsBelow}
use Rattle.lnt_spans.specs.SpanKinds.{answer_held}
use Rattle.lnt_sequences.specs.Copies.{IsAnyAnswer}
use Rattle.lnt_records.specs.declared.path_records.version.PathVersion.{PathVersion}
use Rattle.lnt_records.specs.Faults.{IsUnnumbered}
use Rattle.lnt_records.specs.PathSpans.{PathAnswer, path_answer}
use Rattle.lnt_records.specs.Table.{IsTableOfIn}
use Rattle.lnt_compare.specs.declared.outcome.Compared.TheVariants.{Same, Fault, Differs}
use Rattle.lnt_compare.specs.Comparisons.{TableKind, tables_by_number}
use Rattle.lnt_compare.specs.Outcomes.{tables_by_path}
use Rattle.lnt_lines.specs.declared.options.Options.{Options}
use Rattle.lnt_lines.specs.Good.{selected}
use Rattle.lnt_table.specs.declared.kinds.OfKind.TheVariants.{Numbered, ByPath}
use Rattle.lnt_table.specs.declared.verdict.TableNo.TheVariants as no
use Rattle.lnt_table.specs.declared.verdict.Verdict.TheVariants.{No, Yes}
use Rattle.lnt_table.specs.declared.within.CheckedWithin.{CheckedWithin}
use Rattle.lnt_table.specs.declared.within.CheckedWithin.TheVariants.{Checked as Told, Covered}
use Rattle.lnt_spans.specs.declared.scope.Coverage.{Coverage}
use Rattle.lnt_spans.specs.declared.scope.Scope.{Scope}
use Rattle.lnt_spans.specs.declared.scope.Scope.TheVariants.{All, Answered}
use Rattle.lnt_table.specs.AnyVersion.{IsTrueByPath, told_paths}
use Rattle.lnt_table.specs.Headline.{IsGoodWith, IsTrueVerdict, path_at, told_rows}

-- ---- what is right, whatever an answer is. `said` tells which answer may be given at a position, or that none may.

-- At p the table's answer, or that it has none, is what may be said there; in the scope of answered positions it may have none anyway.
abbrev pub IsRightIn : {X : Type 0} → Scope → (Position → Option X → Type 0) → (Position → Option X) → Position → Type 0
IsRightIn All said by_table p = said p (by_table p)
IsRightIn Answered said by_table p = (by_table p ≡ None) ⊎ said p (by_table p)

-- This is the least position at which the table isn't right. Both answers are those given here.
pub record IsFirstWrong {X : Type 0} (scope : Scope) (said : Position → Option X → Type 0) (by_section by_table : Position → Option X)
    (first : Stretch X) : Type 0 where
  pub section : first.by_section ≡ by_section first.position
  pub table : first.by_table ≡ by_table first.position
  pub wrong : IsRightIn scope said by_table first.position → ⊥
  pub least : (p : Position) → IsBelow p first.position → IsRightIn scope said by_table p

-- ---- each stretch of positions at which the table isn't right

-- At p the table isn't right, and both answers are those of the stretch.
pub record IsWrongWith {X : Type 0} (scope : Scope) (said : Position → Option X → Type 0) (by_section by_table : Position → Option X)
    (stretch : Stretch X) (p : Position) : Type 0 where
  pub wrong : IsRightIn scope said by_table p → ⊥
  pub here : AreAnswers by_section by_table stretch.by_section stretch.by_table p

-- So it is at each position in the half-open range from `from` up to `to`.
abbrev pub StayWrong : {X : Type 0} → Scope → (Position → Option X → Type 0) → (Position → Option X) → (Position → Option X) → Stretch X
    → Position → Position → Type 0
StayWrong scope said by_section by_table stretch from to =
    (p : Position) → IsAtMost from p → IsBelow p to → IsWrongWith scope said by_section by_table stretch p

-- The stretch begins here: the table isn't right, and there is no lower position from which on it was wrong so.
pub record BeginsWrong {X : Type 0} (scope : Scope) (said : Position → Option X → Type 0) (by_section by_table : Position → Option X)
    (stretch : Stretch X) : Type 0 where
  pub here : IsWrongWith scope said by_section by_table stretch stretch.position
  pub longest : (p : Position) → IsBelow p stretch.position
      → StayWrong scope said by_section by_table stretch p stretch.position → ⊥

-- The stretch that begins there holds p: from its first position up to and including p the table is wrong so.
pub record IsInWrong {X : Type 0} (scope : Scope) (said : Position → Option X → Type 0) (by_section by_table : Position → Option X)
    (stretch : Stretch X) (p : Position) : Type 0 where
  pub past : IsAtMost stretch.position p
  pub stay : StayWrong scope said by_section by_table stretch stretch.position p
  pub here : IsWrongWith scope said by_section by_table stretch p

-- This is the first position after the stretch: up to it the table is wrong so, and there it isn't.
pub record EndsWrong {X : Type 0} (scope : Scope) (said : Position → Option X → Type 0) (by_section by_table : Position → Option X)
    (stretch : Stretch X) (end : Position) : Type 0 where
  pub past : IsBelow stretch.position end
  pub stay : StayWrong scope said by_section by_table stretch stretch.position end
  pub over : IsWrongWith scope said by_section by_table stretch end → ⊥

-- At p the table is right, or one of the stretches holds p.
abbrev pub IsRightOrIn : {X : Type 0} → Scope → (Position → Option X → Type 0) → (Position → Option X) → (Position → Option X)
    → List (Stretch X) → Position → Type 0
IsRightOrIn scope said by_section by_table [] p = IsRightIn scope said by_table p
IsRightOrIn scope said by_section by_table (stretch ∷ stretches) p =
    IsInWrong scope said by_section by_table stretch p ⊎ IsRightOrIn scope said by_section by_table stretches p

-- These are exactly the stretches, in ascending order: the longest runs of positions at which the table isn't right, with the same two
-- answers.
pub record AreAllWrong {X : Type 0} (scope : Scope) (said : Position → Option X → Type 0) (by_section by_table : Position → Option X)
    (stretches : List (Stretch X)) : Type 0 where
  pub each : AllByRecursion (BeginsWrong scope said by_section by_table) stretches
  pub rising : AreRising stretches
  pub all : (p : Position) → IsRightOrIn scope said by_section by_table stretches p

-- These are the first of them: none but these begins at or below the last one.
pub record AreFirstWrong {X : Type 0} (scope : Scope) (said : Position → Option X → Type 0) (by_section by_table : Position → Option X)
    (stretches : List (Stretch X)) : Type 0 where
  pub each : AllByRecursion (BeginsWrong scope said by_section by_table) stretches
  pub rising : AreRising stretches
  pub below : AllByRecursion (λ stretch. (p : Position) → IsBelow p stretch.position
      → IsRightOrIn scope said by_section by_table stretches p) stretches

-- ---- a table of a kind, and a section that gives these answers in the fields of each version, and in which these may be given

-- The bytes are a table, and this is so of what may be said, of what the section answers, and of what the table does.
pub record IsTableAmong {V X Y D : Type 0} (kind : TableKind V X Y D) (said : V → Position → Option Y → Type 0)
    (section : V → Position → Option Y) (bytes : List ℕ)
    (IsSo : (Position → Option Y → Type 0) → (Position → Option Y) → (Position → Option Y) → Type 0) : Type 0 where
  pub version : V
  pub table : List X
  pub is_table : IsTableOfIn kind.format version bytes table
  pub so : IsSo (said version) (section version) (answer_held kind.spans table)

-- The table is right at each position of the scope.
abbrev pub IsRightAmong : {V X Y D : Type 0} → TableKind V X Y D → Scope → (V → Position → Option Y → Type 0)
    → (V → Position → Option Y) → List ℕ → Type 0
IsRightAmong kind scope said section bytes = IsTableAmong kind said section bytes
    (λ said by_section by_table. (p : Position) → IsRightIn scope said by_table p)

-- So it is, and the table answers at this many of the section's addresses.
abbrev pub IsCoveredAmong : {V X Y D : Type 0} → TableKind V X Y D → (V → Position → Option Y → Type 0) → (V → Position → Option Y)
    → List ℕ → Coverage → Type 0
IsCoveredAmong kind said section bytes coverage = IsTableAmong kind said section bytes (λ said by_section by_table.
    ((p : Position) → IsRightIn Answered said by_table p) × AreCounts by_table by_section coverage.answered coverage.all)

-- This is the least position of the scope at which it isn't right.
abbrev pub IsWrongAmong : {V X Y D : Type 0} → TableKind V X Y D → Scope → (V → Position → Option Y → Type 0) → (V → Position → Option Y)
    → List ℕ → D → Type 0
IsWrongAmong kind scope said section bytes wrong = IsTableAmong kind said section bytes
    (λ said by_section by_table. IsFirstWrong scope said by_section by_table (kind.stretch wrong))

-- ---- the answers

-- the options, with copies skipped
abbrev pub skipping : Options → Options
skipping options = record options { skip_copies = true }

-- what any of the live sequences answers, in the fields of each version
abbrev pub any_rows : Options → List (ℕ × UnitParts) → Version → Position → Option Answer → Type 0
any_rows options units version = IsAnyAnswer (in_version version) (selected options units)

-- the same by path, with the full path of each file
abbrev pub any_paths : List ℕ → List ℕ → Options → List (ℕ × UnitParts) → PathVersion → Position → Option PathAnswer → Type 0
any_paths line general options units version = IsAnyAnswer (path_answer version (path_at line general units)) (selected options units)

-- The answer is true in the scope, and a reason that it gives is the first. A position that the answer names is the least at which no
-- live sequence that holds it answers as the table does; the section's answer there is that of the kept one.
abbrev pub IsTrueOfAny : Scope → List ℕ → List ℕ → Options → List ℕ → List ℕ → CheckedWithin → Type 0
IsTrueOfAny scope line general options section table (Told (Numbered Yes)) = (scope ≡ All) × IsGoodWith line general options section
    (λ units. IsRightAmong tables_by_number All (any_rows options units) (told_rows options units) table)
IsTrueOfAny scope line general options section table (Told (Numbered (No (no.Differs position by_table by_section)))) =
    IsGoodWith line general options section (λ units. IsWrongAmong tables_by_number scope (any_rows options units) (told_rows options units)
    table (record { position = position; by_table = by_table; by_section = by_section }))
IsTrueOfAny scope line general options section table (Told (Numbered (No reason))) =
    IsTrueVerdict line general options section table (No reason) × (No reason ≢ No no.TableHeader)
IsTrueOfAny scope line general options section table (Told (ByPath Same)) = (scope ≡ All) × IsUnnumbered table
    × IsGoodWith line general options section
    (λ units. IsRightAmong tables_by_path All (any_paths line general options units) (told_paths line general options units) table)
IsTrueOfAny scope line general options section table (Told (ByPath (Fault told))) =
    IsTrueByPath line general options section table (Fault told)
IsTrueOfAny scope line general options section table (Told (ByPath (Differs wrong))) = IsUnnumbered table
    × IsGoodWith line general options section
    (λ units. IsWrongAmong tables_by_path scope (any_paths line general options units) (told_paths line general options units) table wrong)
IsTrueOfAny scope line general options section table (Covered coverage) = (scope ≡ Answered)
    × (IsGoodWith line general options section
    (λ units. IsCoveredAmong tables_by_number (any_rows options units) (told_rows options units) table coverage)
    ⊎ (IsUnnumbered table × IsGoodWith line general options section
    (λ units. IsCoveredAmong tables_by_path (any_paths line general options units) (told_paths line general options units) table coverage)))
