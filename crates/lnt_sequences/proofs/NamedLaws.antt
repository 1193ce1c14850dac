-- Where the rows of live sequences name files that are there, what a section answers does too.
use Rattle.std.proofs.Common.{◌≡◌, ℕ, ◌+◌, ◌<◌, Bool, true, false, not, cond, List, [], ◌∷◌, ◌++◌, Option, Some, refl, sym, ap, subst}
use Rattle.std.proofs.Common.{arith, length, inl, inr, ◌⊎◌, IfSome, MatchOption, option_and_then, option_map, length-append}
use Rattle.std.specs.List.{All, AllByRecursion, find}
use Rattle.std.proofs.lemmas.List.Elements.{All-append, All-filter, All-from_recursion, All-nil, recursion_from_All}
use Rattle.std.proofs.lemmas.Option.{same_Some}
use Rattle.lnt_header.specs.declared.unit_parts.UnitParts.{UnitParts}
use Rattle.lnt_machine.specs.declared.row.Row.{Row}
use Rattle.lnt_machine.specs.declared.row.Sequence.{Sequence}
use Rattle.lnt_machine.specs.Cuts.{AreOpen, IsEnded}
use Rattle.lnt_machine.specs.Matrix.{rows, sequences}
use Rattle.lnt_spans.specs.declared.answer.Answer.{Answer}
use Rattle.lnt_spans.specs.declared.position.Position.{Position}
use Rattle.lnt_spans.proofs.PositionLaws.{not_both}
use Rattle.lnt_sequences.specs.Laws.{IsLastAt}
use Rattle.lnt_sequences.specs.Rules.{FilesExist, HaveFiles}
use Rattle.lnt_sequences.specs.Sequences.{answer_in, answer_of, holds, Holds, is_copy, is_live, kept_of, kept_sequences}
use Rattle.lnt_sequences.specs.Sequences.{line_answer, live_in, live_sequences, Placed, placed_in, row_at, Selection}
use Rattle.lnt_sequences.proofs.EvidenceLemmas.{each_at, last_row-push}
use Rattle.lnt_sequences.proofs.ExtentLemmas.{holds_from_test}
use Rattle.lnt_sequences.proofs.LastRowLemmas.{AreAbove, last_found}
use Rattle.lnt_sequences.proofs.WalkLaws.{each_ended, placed_from}
use Rattle.std.proofs.lemmas.Grind.{common_steps}

-- ---- the row that answers isn't the end row

open_or_last : (before past body : List Row) (row last : Row) → before ++ row ∷ past ≡ body ++ last ∷ [] → AreOpen body
    → (row.end_sequence ≡ false) ⊎ (row ≡ last)
open_or_last [] past [] row last e opens = inr cc
open_or_last [] past (first ∷ body) row last e opens =
    let same : first ≡ row = cc in inl (subst (λ (r : Row). r.end_sequence ≡ false) same opens.0)
open_or_last (first ∷ before) past [] row last e opens = absurd (omega (arith, ap length e, length-append before (row ∷ past)))
open_or_last (first ∷ before) past (other ∷ body) row last e opens =
    let later : before ++ row ∷ past ≡ body ++ last ∷ [] = cc in open_or_last before past body row last later opens.1

row_open : (sequence : Sequence) (p : Position) (row : Row) → IsEnded sequence → Holds sequence.rows p → IsLastAt p sequence.rows row
    → row.end_sequence ≡ false
row_open sequence p row ended held found = grind (arith, common_steps, same_Some, last_row-push, not_both, open_or_last)

file_there : (files : ℕ) (sequence : Sequence) (p : Position) (row : Row) → IsEnded sequence → FilesExist files sequence.rows
    → Holds sequence.rows p → row_at p sequence.rows ≡ Some row → row.file < files
file_there files sequence p row ended exist held is =
    let found : IsLastAt p sequence.rows row =
    subst (λ (o : Option Row). MatchOption o (AreAbove p sequence.rows) (IsLastAt p sequence.rows)) is (last_found p sequence.rows) in
    each_at (λ (r : Row). r.end_sequence ≡ false → r.file < files) found.before row found.past
    (subst (FilesExist files) found.rows_are exist) (row_open sequence p row ended held found)

-- ---- sequences

-- Q holds of the unit and of the file of the row that the sequence answers with, where it holds the position.
abbrev Names : (ℕ → ℕ → Type 0) → Position → Placed → Type 0
Names Q p placed = (row : Row) → Holds placed.rows p → row_at p placed.rows ≡ Some row → Q placed.id.unit row.file

-- it is a sequence of the unit at this offset
record IsOfUnit (unit : ℕ) (placed : Placed) : Type 0 where
  unit_is : placed.id.unit ≡ unit
  ended : IsEnded (record { rows = placed.rows })

each_of_unit : (unit k : ℕ) (ss : List Sequence) → AllByRecursion IsEnded ss → AllByRecursion (IsOfUnit unit) (placed_from unit k ss)
each_of_unit unit k [] all = tt
each_of_unit unit k (s ∷ ss) all = (record { unit_is = refl; ended = all.0 }, each_of_unit unit (k + 1) ss all.1)

each_names : (Q : ℕ → ℕ → Type 0) (p : Position) (unit files : ℕ) (ss : List Placed) → ((file : ℕ) → file < files → Q unit file)
    → AllByRecursion (IsOfUnit unit) ss → HaveFiles files ss → AllByRecursion (Names Q p) ss
each_names Q p unit files [] there of have = tt
each_names Q p unit files (s ∷ ss) there of have = (
  λ row held is. subst (λ (u : ℕ). Q u row.file) (sym of.0.unit_is)
      (there row.file (file_there files (record { rows = s.rows }) p row of.0.ended have.0 held is)),
  each_names Q p unit files ss there of.1 have.1,
)

-- Q holds of the unit's offset and of each of its files, and its live sequences name no other file.
pub record NamesFiles (Q : ℕ → ℕ → Type 0) (dead : Option ℕ) (unit : ℕ × UnitParts) : Type 0 where
  pub have : HaveFiles (length unit.1.header.files) (live_in dead unit)
  pub there : (file : ℕ) → file < length unit.1.header.files → Q unit.0 file

live_names : (Q : ℕ → ℕ → Type 0) (p : Position) (dead : Option ℕ) (units : List (ℕ × UnitParts)) → AllByRecursion (NamesFiles Q dead) units
    → All (Names Q p) (live_sequences dead units)
live_names Q p dead [] all = All-nil (Names Q p)
live_names Q p dead (unit ∷ units) all =
    let of : AllByRecursion (IsOfUnit unit.0) (live_in dead unit) = recursion_from_All (IsOfUnit unit.0) (live_in dead unit)
    (All-filter (is_live dead) (IsOfUnit unit.0) (placed_in unit)
    (All-from_recursion (IsOfUnit unit.0) (placed_in unit) (each_of_unit unit.0 0 (sequences unit.1) (each_ended (rows unit.1))))) in
    All-append (Names Q p) (live_in dead unit) (live_sequences dead units) (All-from_recursion (Names Q p) (live_in dead unit)
    (each_names Q p unit.0 (length unit.1.header.files) (live_in dead unit) all.0.there of all.0.have)) (live_names Q p dead units all.1)

kept_names : (Q : ℕ → ℕ → Type 0) (p : Position) (skip : Bool) (ss : List Placed) → All (Names Q p) ss → All (Names Q p) (kept_of skip ss)
kept_names Q p false ss all = all
kept_names Q p true ss all = All-filter (λ (placed : Placed). not (is_copy ss placed)) (Names Q p) ss all

-- ---- the answer

said : (Q : ℕ → ℕ → Type 0) (p : Position) (placed : Placed) (found : Option Row) → row_at p placed.rows ≡ found → Holds placed.rows p
    → Names Q p placed → IfSome (option_map (answer_of placed.id.unit) found) (λ (answer : Answer). Q answer.unit answer.file)
said Q p placed found is held names = grind (arith, common_steps)

answer_names : (Q : ℕ → ℕ → Type 0) (p : Position) (ss : List Placed) → AllByRecursion (Names Q p) ss
    → IfSome (answer_in ss p) (λ (answer : Answer). Q answer.unit answer.file)
answer_names Q p [] all = tt
answer_names Q p (s ∷ ss) all = by_test (holds p s.rows) refl (answer_names Q p ss all.1)
  where
    by_test : (t : Bool) → holds p s.rows ≡ t → IfSome (answer_in ss p) (λ (answer : Answer). Q answer.unit answer.file)
        → IfSome (option_and_then (λ (placed : Placed). option_map (answer_of placed.id.unit) (row_at p placed.rows))
        (cond t (Some s) (find (λ placed. holds p placed.rows) ss))) (λ (answer : Answer). Q answer.unit answer.file)
    by_test true e rest = said Q p s (row_at p s.rows) refl (holds_from_test s.rows p e) all.0
    by_test false e rest = rest

pub line_names : (Q : ℕ → ℕ → Type 0) (selection : Selection) (p : Position) → AllByRecursion (NamesFiles Q selection.dead) selection.units
    → IfSome (line_answer selection p) (λ (answer : Answer). Q answer.unit answer.file)
line_names Q selection p all =
    let kept = kept_sequences selection in
    let live = live_names Q p selection.dead selection.units all in
    let named = kept_names Q p selection.skip (live_sequences selection.dead selection.units) live in
    answer_names Q p kept (recursion_from_All (Names Q p) kept named)
