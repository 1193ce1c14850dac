-- A unit has one first flaw.
use Rattle.std.proofs.Common.{◌≡◌, ◌≢◌, ℕ, ◌+◌, ◌<◌, ◌≤◌, List, [], ◌∷◌, ◌++◌, length, refl, sym, ap, subst, ◌∙◌, append_assoc, arith}
use Rattle.std.proofs.Common.{⊎_elim, Option}
use Rattle.std.specs.List.{AllByRecursion}
use Rattle.std.proofs.lemmas.Bool.{cases_lt}
use Rattle.std.proofs.lemmas.Grind.{flat_map-append}
use Rattle.lnt_header.specs.Parts.{HeaderParts}
use Rattle.lnt_header.specs.declared.header.EntryTable.TheVariants.{Directories, Files}
use Rattle.lnt_header.specs.HeaderTests.{IsFirstNot}
use Rattle.lnt_header.proofs.FirstLaws.{first_is_wrong}
use Rattle.lnt_header.specs.declared.unit_parts.UnitParts.{UnitParts}
use Rattle.lnt_machine.specs.declared.fault.RunFault.{RunFault}
use Rattle.lnt_machine.specs.declared.fault.RunFault.TheVariants as run
use Rattle.lnt_machine.specs.declared.row.Row.{Row}
use Rattle.lnt_machine.specs.Matrix.{IsRunFault, Runs}
use Rattle.lnt_files.specs.declared.tables.EntryTableFault.{EntryTableFault}
use Rattle.lnt_files.specs.declared.tables.EntryTableFault.TheVariants as table
use Rattle.lnt_files.specs.Tables.{IsTablesFault}
use Rattle.lnt_sequences.specs.declared.watch.MissingFile.{MissingFile}
use Rattle.lnt_sequences.specs.Evidence.{IsFirstFall, IsFirstMissingFile, rows_of, StandsIn}
use Rattle.lnt_sequences.specs.Laws.{MissingFileIsNotThere}
use Rattle.lnt_sequences.specs.Rules.{HaveFiles}
use Rattle.lnt_sequences.specs.Sequences.{live_in, Placed, placed_in}
use Rattle.lnt_lines.specs.declared.no.No.TheVariants as no
use Rattle.lnt_lines.specs.Good.{IsWellFormed}
use Rattle.lnt_lines.specs.Nos.{IsFlaw, No}
use Rattle.lnt_lines.specs.Running.{table_no}
use Rattle.lnt_lines.proofs.FlawLemmas.{runs_well, tables_well}

-- ---- the first of several

pub same_least : (i j : ℕ) → (i < j → ⊥) → (j < i → ⊥) → i ≡ j
same_least i j below above =
    ⊎_elim (λ (lt : i < j). absurd (below lt)) (λ (le : j ≤ i). ⊎_elim (λ (lt : j < i). absurd (above lt)) (λ (ge : i ≤ j). omega arith)
    (cases_lt j i)) (cases_lt i j)

-- an element that stands before another is among those before it
earlier_is : {X : Type 0} (P : X → Type 0) (before past before' past' : List X) (x y : X)
    → before ++ x ∷ past ≡ before' ++ y ∷ past' → length before < length before' → AllByRecursion P before' → P x
earlier_is P before past [] past' x y e lt all = absurd (omega arith)
earlier_is {X} P [] past (z ∷ before') past' x y e lt all = let heads : z ≡ x = cc in subst P heads all.0
earlier_is {X} P (w ∷ before) past (z ∷ before') past' x y e lt all =
    let tails : before ++ x ∷ past ≡ before' ++ y ∷ past' = cc in
    earlier_is P before past before' past' x y tails (omega arith) all.1

-- elements at one place are one
same_at : {X : Type 0} (before past before' past' : List X) (x y : X) → before ++ x ∷ past ≡ before' ++ y ∷ past'
    → length before ≡ length before' → x ≡ y
same_at [] past [] past' x y e same = cc
same_at [] past (z ∷ before') past' x y e same = absurd (omega arith)
same_at (w ∷ before) past [] past' x y e same = absurd (omega arith)
same_at {X} (w ∷ before) past (z ∷ before') past' x y e same =
    let tails : before ++ x ∷ past ≡ before' ++ y ∷ past' = cc in
    same_at before past before' past' x y tails (omega arith)

one_first : {X : Type 0} (P : X → Type 0) (xs : List X) (i j : ℕ) → IsFirstNot P xs i → IsFirstNot P xs j → i ≡ j
one_first P xs i j a b =
    same_least i j
    (λ lt. a.not_so (earlier_is P a.before a.past b.before b.past a.value b.value (sym a.joined ∙ b.joined)
    (omega (arith, lt, a.index_is, b.index_is)) b.all_before))
    (λ lt. b.not_so (earlier_is P b.before b.past a.before a.past b.value a.value (sym b.joined ∙ a.joined)
    (omega (arith, lt, a.index_is, b.index_is)) a.all_before))

-- ---- runs

one_run : (unit : UnitParts) (f g : RunFault) → f ≢ run.Memory → g ≢ run.Memory → IsRunFault unit f → IsRunFault unit g → f ≡ g
one_run unit (run.LineOutOfRange k) (run.LineOutOfRange l) m n f g =
    ap run.LineOutOfRange (same_least k l (λ lt. f.2 (g.1 (k + 1) (omega (arith, lt)))) (λ lt. g.2 (f.1 (l + 1) (omega (arith, lt)))))
one_run unit (run.LineOutOfRange k) run.OpenSequence m n f g = absurd (f.2 (g.0 (k + 1) (omega (arith, f.0))))
one_run unit run.OpenSequence (run.LineOutOfRange l) m n f g = absurd (g.2 (f.0 (l + 1) (omega (arith, g.0))))
one_run unit run.OpenSequence run.OpenSequence m n f g = refl
one_run unit run.Memory g m n f h = absurd (m refl)
one_run unit f run.Memory m n g h = absurd (n refl)

-- ---- tables

one_table : (text general : List ℕ) (h : HeaderParts) (f g : EntryTableFault) → IsTablesFault text general h f
    → IsTablesFault text general h g → f ≡ g
one_table text general h (table.EntryFormat Directories) (table.EntryFormat Directories) f g = refl
one_table text general h (table.EntryFormat Directories) (table.EntryFormat Files) f g = absurd (f g.0)
one_table text general h (table.EntryFormat Directories) (table.StringOutside Directories j) f g = absurd (f g.0.directories)
one_table text general h (table.EntryFormat Directories) (table.StringOutside Files j) f g = absurd (f g.0.directories)
one_table text general h (table.EntryFormat Directories) (table.DirectoryNumber j) f g = absurd (f g.0.format)
one_table text general h (table.EntryFormat Files) (table.EntryFormat Directories) f g = absurd (g f.0)
one_table text general h (table.EntryFormat Files) (table.EntryFormat Files) f g = refl
one_table text general h (table.EntryFormat Files) (table.StringOutside Directories j) f g = absurd (f.1 g.0.files)
one_table text general h (table.EntryFormat Files) (table.StringOutside Files j) f g = absurd (f.1 g.0.files)
one_table text general h (table.EntryFormat Files) (table.DirectoryNumber j) f g = absurd (f.1 g.1.format)
one_table text general h (table.StringOutside Directories i) (table.EntryFormat Directories) f g = absurd (g f.0.directories)
one_table text general h (table.StringOutside Directories i) (table.EntryFormat Files) f g = absurd (g.1 f.0.files)
one_table text general h (table.StringOutside Directories i) (table.StringOutside Directories j) f g =
    ap (table.StringOutside Directories) (one_first _ h.directories i j f.1 g.1)
one_table text general h (table.StringOutside Directories i) (table.StringOutside Files j) f g = absurd (first_is_wrong f.1 g.1)
one_table text general h (table.StringOutside Directories i) (table.DirectoryNumber j) f g = absurd (first_is_wrong f.1 g.0.paths)
one_table text general h (table.StringOutside Files i) (table.EntryFormat Directories) f g = absurd (g f.0.directories)
one_table text general h (table.StringOutside Files i) (table.EntryFormat Files) f g = absurd (g.1 f.0.files)
one_table text general h (table.StringOutside Files i) (table.StringOutside Directories j) f g = absurd (first_is_wrong g.1 f.1)
one_table text general h (table.StringOutside Files i) (table.StringOutside Files j) f g =
    ap (table.StringOutside Files) (one_first _ h.files i j f.2 g.2)
one_table text general h (table.StringOutside Files i) (table.DirectoryNumber j) f g = absurd (first_is_wrong f.2 g.1.paths)
one_table text general h (table.DirectoryNumber i) (table.EntryFormat Directories) f g = absurd (g f.0.format)
one_table text general h (table.DirectoryNumber i) (table.EntryFormat Files) f g = absurd (g.1 f.1.format)
one_table text general h (table.DirectoryNumber i) (table.StringOutside Directories j) f g = absurd (first_is_wrong g.1 f.0.paths)
one_table text general h (table.DirectoryNumber i) (table.StringOutside Files j) f g = absurd (first_is_wrong g.2 f.1.paths)
one_table text general h (table.DirectoryNumber i) (table.DirectoryNumber j) f g =
    ap table.DirectoryNumber (one_first _ h.files i j f.2 g.2)

-- ---- rows

rows_at : (ss : List Placed) (placed : Placed) (before : List Row) (row : Row) (index : ℕ) → (s : StandsIn ss placed before row index)
    → rows_of ss ≡ (rows_of s.earlier ++ before) ++ row ∷ (s.after ++ rows_of s.later)
rows_at ss placed before row index s =
    ap rows_of s.sequences_are ∙ flat_map-append (λ (p : Placed). p.rows) s.earlier (placed ∷ s.later)
    ∙ ap (λ (rows : List Row). rows_of s.earlier ++ (rows ++ rows_of s.later)) s.rows_are
    ∙ ap (λ (rows : List Row). rows_of s.earlier ++ rows) (append_assoc before (row ∷ s.after) (rows_of s.later))
    ∙ sym (append_assoc (rows_of s.earlier) before (row ∷ (s.after ++ rows_of s.later)))

same_row : (ss : List Placed) (one two : Placed) (before before' : List Row) (row row' : Row) (i j : ℕ) → StandsIn ss one before row i
    → StandsIn ss two before' row' j → i ≡ j → row ≡ row'
same_row ss one two before before' row row' i j s t same =
    same_at (rows_of s.earlier ++ before) (s.after ++ rows_of s.later) (rows_of t.earlier ++ before') (t.after ++ rows_of t.later) row row'
    (sym (rows_at ss one before row i s) ∙ rows_at ss two before' row' j t) (sym s.index_is ∙ same ∙ t.index_is)

missing_parts : ℕ → ℕ → MissingFile
missing_parts row file = record { row = row; file = file }

one_missing : (dead : Option ℕ) (files : ℕ) (ss : List Placed) (a b : MissingFile) → IsFirstMissingFile dead files ss a
    → IsFirstMissingFile dead files ss b → a ≡ b
unfolding missing_parts
one_missing dead files ss a b f g =
    let rows : a.row ≡ b.row = same_least a.row b.row (λ lt. g.first a lt f.file) (λ lt. f.first b lt g.file) in
    let row = same_row ss f.file.placed g.file.placed f.file.before g.file.before f.file.row g.file.row a.row b.row f.file.stands
    g.file.stands rows in
    let file : a.file ≡ b.file = f.file.file_is ∙ ap (λ (r : Row). r.file) row ∙ sym g.file.file_is in
    ap (λ (k : ℕ). missing_parts k a.file) rows ∙ ap (missing_parts b.row) file

one_fall : (dead : Option ℕ) (ss : List Placed) (i j : ℕ) → IsFirstFall dead ss i → IsFirstFall dead ss j → i ≡ j
one_fall dead ss i j f g = same_least i j (λ lt. g.first i lt f.fall) (λ lt. f.first j lt g.fall)

-- ---- flaws, by their kinds

data Flaw (text general : List ℕ) (dead : Option ℕ) (unit : ℕ × UnitParts) (reason : No) : Type 0 where
  of_run : (fault : RunFault) → reason ≡ no.Run unit.0 fault → fault ≢ run.Memory → IsRunFault unit.1 fault
      → Flaw text general dead unit reason
  of_tables : (fault : EntryTableFault) → reason ≡ table_no unit.0 fault → Runs unit.1 → IsTablesFault text general unit.1.header fault
      → Flaw text general dead unit reason
  of_file : (missing : MissingFile) → reason ≡ no.FileNumber unit.0 missing.row missing.file → IsWellFormed text general unit.1
      → IsFirstMissingFile dead (length unit.1.header.files) (placed_in unit) missing → Flaw text general dead unit reason
  of_fall : (row : ℕ) → reason ≡ no.Falls unit.0 row → IsWellFormed text general unit.1
      → HaveFiles (length unit.1.header.files) (live_in dead unit) → IsFirstFall dead (placed_in unit) row
      → Flaw text general dead unit reason

flaw_kind : (text general : List ℕ) (dead : Option ℕ) (unit : ℕ × UnitParts) (reason : No) → IsFlaw text general dead unit reason
    → Flaw text general dead unit reason
flaw_kind text general dead unit (no.Malformed fault) f = absurd f
flaw_kind text general dead unit (no.Run offset fault) f = of_run fault (ap (λ (o : ℕ). no.Run o fault) f.0) f.1 f.2
flaw_kind text general dead unit (no.EntryFormat offset which) f =
    of_tables (table.EntryFormat which) (ap (λ (o : ℕ). no.EntryFormat o which) f.0) f.1 f.2
flaw_kind text general dead unit (no.StringOutside offset which entry) f =
    of_tables (table.StringOutside which entry) (ap (λ (o : ℕ). no.StringOutside o which entry) f.0) f.1 f.2
flaw_kind text general dead unit (no.DirectoryNumber offset file) f =
    of_tables (table.DirectoryNumber file) (ap (λ (o : ℕ). no.DirectoryNumber o file) f.0) f.1 f.2
flaw_kind text general dead unit (no.FileNumber offset row file) f =
    of_file (record { row = row; file = file }) (ap (λ (o : ℕ). no.FileNumber o row file) f.0) f.1 f.2
flaw_kind text general dead unit (no.Falls offset row) f = of_fall row (ap (λ (o : ℕ). no.Falls o row) f.0) f.1 f.2 f.3
flaw_kind text general dead unit (no.Overlap first second position) f = absurd f

one_kind : MissingFileIsNotThere → (text general : List ℕ) (dead : Option ℕ) (unit : ℕ × UnitParts) (r s : No)
    → Flaw text general dead unit r
    → Flaw text general dead unit s → r ≡ s
one_kind law text general dead unit r s (of_run f e some is) (of_run g e' some' is') =
    e ∙ ap (no.Run unit.0) (one_run unit.1 f g some some' is is') ∙ sym e'
one_kind law text general dead unit r s (of_run f e some is) (of_tables g e' runs' is') = absurd (runs_well unit.1 f runs' some is)
one_kind law text general dead unit r s (of_run f e some is) (of_file g e' well' is') = absurd (runs_well unit.1 f well'.runs some is)
one_kind law text general dead unit r s (of_run f e some is) (of_fall g e' well' have' is') = absurd (runs_well unit.1 f well'.runs some is)
one_kind law text general dead unit r s (of_tables f e runs is) (of_run g e' some' is') = absurd (runs_well unit.1 g runs some' is')
one_kind law text general dead unit r s (of_tables f e runs is) (of_tables g e' runs' is') =
    e ∙ ap (table_no unit.0) (one_table text general unit.1.header f g is is') ∙ sym e'
one_kind law text general dead unit r s (of_tables f e runs is) (of_file g e' well' is') =
    absurd (tables_well text general unit.1.header f well'.tables is)
one_kind law text general dead unit r s (of_tables f e runs is) (of_fall g e' well' have' is') =
    absurd (tables_well text general unit.1.header f well'.tables is)
one_kind law text general dead unit r s (of_file f e well is) (of_run g e' some' is') = absurd (runs_well unit.1 g well.runs some' is')
one_kind law text general dead unit r s (of_file f e well is) (of_tables g e' runs' is') =
    absurd (tables_well text general unit.1.header g well.tables is')
one_kind law text general dead unit r s (of_file f e well is) (of_file g e' well' is') =
    e ∙ ap (λ (m : MissingFile). no.FileNumber unit.0 m.row m.file)
    (one_missing dead (length unit.1.header.files) (placed_in unit) f g is is') ∙ sym e'
one_kind law text general dead unit r s (of_file f e well is) (of_fall g e' well' have' is') =
    absurd (law dead (length unit.1.header.files) (placed_in unit) f is.file have')
one_kind law text general dead unit r s (of_fall f e well have is) (of_run g e' some' is') = absurd (runs_well unit.1 g well.runs some' is')
one_kind law text general dead unit r s (of_fall f e well have is) (of_tables g e' runs' is') =
    absurd (tables_well text general unit.1.header g well.tables is')
one_kind law text general dead unit r s (of_fall f e well have is) (of_file g e' well' is') =
    absurd (law dead (length unit.1.header.files) (placed_in unit) g is'.file have)
one_kind law text general dead unit r s (of_fall f e well have is) (of_fall g e' well' have' is') =
    e ∙ ap (no.Falls unit.0) (one_fall dead (placed_in unit) f g is is') ∙ sym e'

pub one_flaw : MissingFileIsNotThere → (text general : List ℕ) (dead : Option ℕ) (unit : ℕ × UnitParts) (r s : No)
    → IsFlaw text general dead unit r → IsFlaw text general dead unit s → r ≡ s
one_flaw law text general dead unit r s f g =
    one_kind law text general dead unit r s (flaw_kind text general dead unit r f) (flaw_kind text general dead unit s g)
