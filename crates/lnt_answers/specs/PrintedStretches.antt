-- What is printed if all positions in a scope are reported at which a table and a good section answer differently.
use Rattle.std.specs.Prelude.{◌≡◌, ◌≢◌, ◌⊎◌, ℕ, Bool, true, false, List, [], ◌∷◌, ◌++◌, map, flat_map, codes}
use Rattle.std.specs.Prelude.{None, Option, IfSome, IsSomeAnd}
use Rattle.std.specs.List.{AllByRecursion}
use Rattle.std.specs.Io.KnownBytes.{Appends, Keeps}
use Rattle.lnt_io.specs.declared.status.Status.{Status}
use Rattle.lnt_io.specs.declared.status.Status.TheVariants.{No}
use Rattle.lnt_spans.specs.declared.answer.Answer.{Answer}
use Rattle.lnt_spans.specs.declared.position.Position.{Position}
use Rattle.lnt_spans.specs.AnyStretches.{AreAllStretches, EndsAt, Stretch}
use Rattle.lnt_spans.specs.Partial.{addresses_answered, AreAllMistakes, where_answered}
use Rattle.lnt_records.specs.PathSpans.{PathAnswer, path_answer}
use Rattle.lnt_table.specs.declared.kinds.OfKind.TheVariants.{Numbered}
use Rattle.lnt_table.specs.declared.verdict.Verdict.TheVariants.{Yes}
use Rattle.lnt_table.specs.declared.within.CheckedWithin.{CheckedWithin}
use Rattle.lnt_table.specs.declared.within.CheckedWithin.TheVariants as within
use Rattle.lnt_spans.specs.declared.scope.Scope.{Scope}
use Rattle.lnt_spans.specs.declared.scope.Scope.TheVariants.{All, Answered}
use Rattle.lnt_table.specs.FaultTexts.{path_stretch_text, stretch_text, table_no_text}
use Rattle.lnt_answers.specs.declared.report.Report.{Report}
use Rattle.lnt_answers.specs.Verdicts.{checked_line, checked_status}
use Rattle.lnt_io.specs.Prefixes.{AppendsPrefix, HasBegun}
use Rattle.lnt_spans.specs.Answers.{in_version}
use Rattle.lnt_sequences.specs.Sequences.{line_answer, live_sequences, Selection}
use Rattle.lnt_records.specs.declared.fault.TableFault.{TableFault}
use Rattle.lnt_records.specs.declared.fault.TableFault.TheVariants as fault
use Rattle.lnt_compare.specs.Comparisons.{in_versions, tables_by_number}
use Rattle.lnt_compare.specs.Outcomes.{tables_by_path}
use Rattle.lnt_records.specs.Faults.{IsFault, IsUnnumbered, IsPathFault}
use Rattle.lnt_sequences.specs.Copies.{AreExtentsOf, IsAnyAnswer}
use Rattle.lnt_table.specs.AnyCopy.{AreAllWrong, AreFirstWrong, EndsWrong, IsTableAmong}
use Rattle.lnt_table.specs.Headline.{indexed_path, told_path}
use Rattle.lnt_answers.specs.declared.printed_stretches.Stretches.{Stretches}
use Rattle.lnt_answers.specs.declared.printed_stretches.Stretches.TheVariants.{Faulty, FaultyByPath, Printed, PrintedByPath}
use Rattle.lnt_table.specs.Verdicts.{no_of_fault}
use Rattle.lnt_lines.specs.Indexed.{Indexed, IsIndexOf, OfUnits}
use Rattle.lnt_io.specs.declared.status.Status.TheVariants as ending

-- ---- what is printed of all positions in a scope at which the answers of a table and of a section differ

-- ---- the line of a stretch

-- a stretch, and the first position after it, if that is told
pub record ToldStretch (X : Type 0) : Type 0 where
  pub stretch : Stretch X
  pub end : Option Position

abbrev pub told_with : {X : Type 0} → Stretch X → Option Position → ToldStretch X
told_with stretch end = record { stretch = stretch; end = end }

-- of a table of version 1 or 2
abbrev pub stretch_line : ToldStretch Answer → List ℕ
stretch_line told = stretch_text (record {
  position = told.stretch.position;
  by_table = told.stretch.by_table;
  by_section = told.stretch.by_section;
}) told.end ++ codes "\n"

-- of a table by path
abbrev pub path_stretch_line : ToldStretch PathAnswer → List ℕ
path_stretch_line told = path_stretch_text told.stretch told.end ++ codes "\n"

-- The end of a stretch, of which this is so, is told exactly if ends are.
abbrev pub IsEndTold : Bool → (Position → Type 0) → Option Position → Type 0
IsEndTold false IsEnd end = end ≡ None
IsEndTold true IsEnd end = IsSomeAnd end IsEnd

-- ---- all stretches in a scope
--     said    which answer may be given at a position, or that none may, if any copy counts

-- These are exactly the stretches in the scope, in ascending order: all at which the two answer differently, or those among them at
-- which the table answers. If any copy counts, they are the longest runs of positions at which the table isn't right.
--     any_copy    whether any copy counts
abbrev pub AreAllIn : {X : Type 0} → Bool → Scope → (Position → Option X → Type 0) → (Position → Option X) → (Position → Option X)
    → List (Stretch X) → Type 0
AreAllIn false All said by_section by_table stretches = AreAllStretches by_section by_table stretches
AreAllIn false Answered said by_section by_table stretches = AreAllMistakes by_table by_section stretches
AreAllIn true scope said by_section by_table stretches = AreAllWrong scope said by_section by_table stretches

-- This is the first position after such a stretch.
abbrev pub EndsIn : {X : Type 0} → Bool → Scope → (Position → Option X → Type 0) → (Position → Option X) → (Position → Option X)
    → Stretch X → Position → Type 0
EndsIn false scope said by_section by_table stretch end = EndsAt by_section by_table stretch end
EndsIn true scope said by_section by_table stretch end = EndsWrong scope said by_section by_table stretch end

-- Each of these is told with its end, if ends are told.
abbrev pub HaveEnds : {X : Type 0} → Report → (Position → Option X → Type 0) → (Position → Option X) → (Position → Option X)
    → List (ToldStretch X) → Type 0
HaveEnds report said by_section by_table stretches = AllByRecursion
    (λ told. IsEndTold report.ends (EndsIn report.any_copy report.scope said by_section by_table told.stretch) told.end) stretches

-- the answer where there is no stretch: in the scope of the positions at which the table answers, how much it answers
abbrev pub answer_if_none : {X : Type 0} → Scope → (Position → Option X) → (Position → Option X) → CheckedWithin
answer_if_none All by_section by_table = within.Checked (Numbered Yes)
answer_if_none Answered by_section by_table =
    within.Covered (record { answered = addresses_answered (where_answered by_table by_section); all = addresses_answered by_section })

-- a line for each stretch, or this text if there is none
abbrev pub lines_or : {X : Type 0} → (X → List ℕ) → List ℕ → List X → List ℕ
lines_or line none [] = none
lines_or line none (first ∷ stretches) = flat_map line (first ∷ stretches)

-- the status after these stretches, or this one if there is none
abbrev pub stretches_status : {X : Type 0} → Status → List X → Status
stretches_status ended [] = ended
stretches_status ended (first ∷ stretches) = No

-- What was appended to a writer that held these bytes (old) is a line for each stretch in the scope, or the answer if there is none;
-- and this is the status after them.
--     line    the line of a stretch
pub record AreStretchesPrinted {X : Type 0} (line : ToldStretch X → List ℕ) (report : Report) (said : Position → Option X → Type 0)
    (by_section by_table : Position → Option X) (old new : Option (List ℕ)) (status : Status) : Type 0 where
  pub stretches : List (ToldStretch X)
  pub are_all : AreAllIn report.any_copy report.scope said by_section by_table (map (λ told. told.stretch) stretches)
  pub ends : HaveEnds report said by_section by_table stretches
  pub printed : Appends old new
      (lines_or line (checked_line report.at_least (answer_if_none report.scope by_section by_table)) stretches)
  pub status_is : status ≡ stretches_status (checked_status report.at_least (answer_if_none report.scope by_section by_table)) stretches

-- ---- what is printed

-- What is so of what any of the live sequences answers, of a table and of the rows of the units: of the two ways to answer.
abbrev pub OfAnswers : Type 0 → Type 1
OfAnswers X = (Position → Option X → Type 0) → (Position → Option X) → (Position → Option X) → Type 0

-- of a table by number, in the fields of its version
abbrev pub IsSoOfRows : Selection → List ℕ → OfAnswers Answer → Type 0
IsSoOfRows selection table IsSo = IsTableAmong tables_by_number (λ version. IsAnyAnswer (in_version version) selection)
    (in_versions (line_answer selection)) table IsSo

-- of a table by path, and of what the rows answer with the full path of each file
abbrev pub IsSoByPath : Indexed → Selection → List ℕ → OfAnswers PathAnswer → Type 0
IsSoByPath index selection table IsSo = IsTableAmong tables_by_path
    (λ version. IsAnyAnswer (path_answer version (indexed_path index)) selection)
    (λ version. told_path version index selection) table IsSo

-- The bytes begin with the header of neither version 1 nor 2, and this is their first fault as a table by path: `Header` if
-- they begin with the header of neither version 3 nor 4.
abbrev pub IsFaultByPath : List ℕ → TableFault → Type 0
IsFaultByPath table found = IsUnnumbered table × IsPathFault table found

-- What is reported is true of the bytes: the stretches in the scope at which the answers differ, or its first fault. Of bytes with the
-- header of version 1 or 2 it is Faulty or Printed, of all others FaultyByPath or PrintedByPath.
abbrev pub AreStretchesOf : Report → Indexed → Selection → List ℕ → Option (List ℕ) → Option (List ℕ) → Stretches → Type 0
AreStretchesOf report index selection table old new (Faulty found) = IsFault table found × (found ≢ fault.Header)
AreStretchesOf report index selection table old new (Printed status) = IsSoOfRows selection table
    (λ said by_section by_table. AreStretchesPrinted stretch_line report said by_section by_table old new status)
AreStretchesOf report index selection table old new (FaultyByPath found) = IsFaultByPath table found
AreStretchesOf report index selection table old new (PrintedByPath status) = IsSoByPath index selection table
    (λ said by_section by_table. AreStretchesPrinted path_stretch_line report said by_section by_table old new status)

-- Whatever the units are that the index was made of, this is so of them. If any copy counts, this is said of an index that has the
-- extents of all live sequences.
abbrev pub OfThese : Bool → Indexed → (Selection → Type 0) → Type 0
OfThese false index IsSo = OfUnits index IsSo
OfThese true index IsSo = (selection : Selection) → IsIndexOf selection index
    → AreExtentsOf (live_sequences selection.dead selection.units) index.live → IsSo selection

-- it is true of these units, where the table's bytes are known
abbrev pub AreStretchesOfIndex : Report → Indexed → Option (List ℕ) → Option (List ℕ) → Option (List ℕ) → Stretches → Type 0
AreStretchesOfIndex report index table old new found = OfThese report.any_copy index (λ selection. IfSome table (λ text.
    AreStretchesOf report index selection text old new found))

-- What was appended to a writer that held these bytes is the line of what is wrong with the table, if something is.
abbrev pub IsFaultPrinted : Stretches → Option (List ℕ) → Option (List ℕ) → Type 0
IsFaultPrinted (Faulty found) old new = Appends old new (table_no_text (no_of_fault found) ++ codes "\n")
IsFaultPrinted (Printed status) old new = Unit {0}
IsFaultPrinted (FaultyByPath found) old new = Appends old new (table_no_text (no_of_fault found) ++ codes "\n")
IsFaultPrinted (PrintedByPath status) old new = Unit {0}

-- how a run that reports it ends
abbrev pub outcome_status : Stretches → Status
outcome_status (Faulty found) = ending.No
outcome_status (Printed status) = status
outcome_status (FaultyByPath found) = ending.No
outcome_status (PrintedByPath status) = status

-- ---- where the writer stopped
--     old, new    what it holds before and afterwards

-- A prefix of the lines of the first stretches was written, if any copy counts.
pub record AreFirstPrinted {X : Type 0} (line : ToldStretch X → List ℕ) (report : Report) (said : Position → Option X → Type 0)
    (by_section by_table : Position → Option X) (old new : Option (List ℕ)) : Type 0 where
  pub stretches : List (ToldStretch X)
  pub are_first : AreFirstWrong report.scope said by_section by_table (map (λ told. told.stretch) stretches)
  pub ends : HaveEnds report said by_section by_table stretches
  pub prefix : AppendsPrefix old new (flat_map line stretches)

-- the same of a table with these bytes
abbrev pub AreFirstOf : Report → Indexed → Selection → List ℕ → Option (List ℕ) → Option (List ℕ) → Type 0
AreFirstOf report index selection table old new =
    IsSoOfRows selection table (λ said by_section by_table. AreFirstPrinted stretch_line report said by_section by_table old new)
    ⊎ IsSoByPath index selection table
    (λ said by_section by_table. AreFirstPrinted path_stretch_line report said by_section by_table old new)

-- What was written is a prefix of what might have been reported of the table, or, if any copy counts, of the lines of the first stretches.
abbrev pub AreStretchesBegun : Report → Indexed → Selection → List ℕ → Option (List ℕ) → Option (List ℕ) → Type 0
AreStretchesBegun report index selection table old new =
    HasBegun (λ end found. AreStretchesOf report index selection table old end found × IsFaultPrinted found old end) old new
    ⊎ ((report.any_copy ≡ true) × AreFirstOf report index selection table old new)

-- it is, of these units, where the table's bytes are known; or nothing was written
abbrev pub BeginsStretches : Report → Indexed → Option (List ℕ) → Option (List ℕ) → Option (List ℕ) → Type 0
BeginsStretches report index table old new = Keeps old new ⊎ OfThese report.any_copy index (λ selection. IfSome table (λ text.
    AreStretchesBegun report index selection text old new))
