-- A good section has no flaw.
use Rattle.std.proofs.Common.{◌≡◌, ◌≢◌, ℕ, ◌+◌, List, [], ◌∷◌, ◌++◌, length, refl, sym, ap, subst, ◌∙◌, append_assoc, arith, Option}
use Rattle.std.proofs.Common.{length-append}
use Rattle.std.specs.List.{AllByRecursion}
use Rattle.lnt_wire.specs.declared.format.Order.{Order}
use Rattle.lnt_wire.proofs.LengthLaws.{same_rest}
use Rattle.lnt_header.specs.Parts.{HeaderParts}
use Rattle.lnt_header.specs.declared.header.EntryTable.TheVariants.{Directories, Files}
use Rattle.lnt_header.proofs.FirstLaws.{first_is_wrong}
use Rattle.lnt_header.specs.declared.unit_parts.UnitParts.{UnitParts}
use Rattle.lnt_unit.proofs.UnitLaws.{one_section, one_spelling, unit_is_some}
use Rattle.lnt_unit.specs.UnitBytes.{UnitsFrom}
use Rattle.lnt_machine.specs.declared.fault.RunFault.{RunFault}
use Rattle.lnt_machine.specs.declared.fault.RunFault.TheVariants as run
use Rattle.lnt_machine.specs.Matrix.{IsRunFault, Runs}
use Rattle.lnt_files.specs.declared.tables.EntryTableFault.{EntryTableFault}
use Rattle.lnt_files.specs.declared.tables.EntryTableFault.TheVariants as table
use Rattle.lnt_files.specs.Tables.{AreUsableTables, IsTablesFault}
use Rattle.lnt_sequences.specs.Laws.{FallIsNotOrdered, MissingFileIsNotThere, OverlapIsNotApart}
use Rattle.lnt_sequences.specs.Rules.{AreApart}
use Rattle.lnt_sequences.specs.Sequences.{kept_sequences, placed_in}
use Rattle.lnt_lines.specs.declared.no.No.TheVariants as no
use Rattle.lnt_lines.specs.Good.{IsGood, IsSoundUnit, selected, Options}
use Rattle.lnt_lines.specs.Laws.{GoodHasNoFlaw}
use Rattle.lnt_lines.specs.Nos.{IsFirstFlaw, IsFlaw, No}

-- ---- a sound unit has no flaw

pub runs_well : (unit : UnitParts) (fault : RunFault) → Runs unit → fault ≢ run.Memory → IsRunFault unit fault → ⊥
runs_well unit (run.LineOutOfRange k) runs some f = f.2 (runs.lines (k + 1) (omega (arith, f.0)))
runs_well unit run.OpenSequence runs some f = f.1 runs.closed
runs_well unit run.Memory runs some f = some refl

pub tables_well : (text general : List ℕ) (h : HeaderParts) (fault : EntryTableFault) → AreUsableTables text general h
    → IsTablesFault text general h fault → ⊥
tables_well text general h (table.EntryFormat Directories) usable f = f usable.directories.format
tables_well text general h (table.EntryFormat Files) usable f = f.1 usable.files.format
tables_well text general h (table.StringOutside Directories entry) usable f = first_is_wrong f.1 usable.directories.paths
tables_well text general h (table.StringOutside Files entry) usable f = first_is_wrong f.2 usable.files.paths
tables_well text general h (table.DirectoryNumber file) usable f = first_is_wrong f.2 usable.numbers

pub sound_well : FallIsNotOrdered → MissingFileIsNotThere → (text general : List ℕ) (dead : Option ℕ) (unit : ℕ × UnitParts) (reason : No)
    → IsSoundUnit text general dead unit → IsFlaw text general dead unit reason → ⊥
sound_well falls missing text general dead unit (no.Malformed fault) s f = f
sound_well falls missing text general dead unit (no.Run offset fault) s f = runs_well unit.1 fault s.well_formed.runs f.1 f.2
sound_well falls missing text general dead unit (no.EntryFormat offset which) s f =
    tables_well text general unit.1.header (table.EntryFormat which) s.well_formed.tables f.2
sound_well falls missing text general dead unit (no.StringOutside offset which entry) s f =
    tables_well text general unit.1.header (table.StringOutside which entry) s.well_formed.tables f.2
sound_well falls missing text general dead unit (no.DirectoryNumber offset file) s f =
    tables_well text general unit.1.header (table.DirectoryNumber file) s.well_formed.tables f.2
sound_well falls missing text general dead unit (no.FileNumber offset row file) s f =
    missing dead (length unit.1.header.files) (placed_in unit) (record { row = row; file = file }) f.2.file s.files
sound_well falls missing text general dead unit (no.Falls offset row) s f = falls dead (placed_in unit) row f.3.fall s.ordered
sound_well falls missing text general dead unit (no.Overlap first second position) s f = f

-- ---- its units begin with those of each prefix

pub same_pair : (u v : ℕ × UnitParts) → u.0 ≡ v.0 → u.1 ≡ v.1 → u ≡ v
same_pair (m, x) (n, y) places parts = cc (places, parts)

pub units_begin : (order : Order) (offset : ℕ) (us vs : List (ℕ × UnitParts)) (prefix rest whole : List ℕ)
    → UnitsFrom order offset us prefix
    → UnitsFrom order offset vs whole → whole ≡ prefix ++ rest
    → (ws : List (ℕ × UnitParts)) × (vs ≡ us ++ ws)
units_begin order offset [] vs prefix rest whole p q e = (vs, refl)
units_begin order offset (u ∷ us) [] prefix rest whole p q e =
    absurd (omega (
      arith,
      unit_is_some order u.1 p.0 p.3,
      ap length p.4,
      length-append p.0 p.1,
      ap length q,
      ap length e,
      length-append prefix rest,
    ))
units_begin order offset (u ∷ us) (v ∷ vs) prefix rest whole p q e =
    let all : p.0 ++ (p.1 ++ rest) ≡ q.0 ++ q.1 =
    sym (append_assoc p.0 p.1 rest) ∙ ap (λ (z : List ℕ). z ++ rest) (sym p.4) ∙ sym e ∙ q.4 in
    let one = (one_spelling order).one u.1 v.1 p.0 q.0 (p.1 ++ rest) q.1 p.3 q.3 all in
    let past : p.1 ++ rest ≡ q.1 = same_rest p.0 q.0 (p.1 ++ rest) q.1 one.1 all in
    let later : UnitsFrom order (offset + length p.0) vs q.1 =
    subst (λ (z : List ℕ). UnitsFrom order (offset + length z) vs q.1) (sym one.1) q.5 in
    let more = units_begin order (offset + length p.0) us vs p.1 rest q.1 p.5 later (sym past) in
    let heads : u ≡ v = same_pair u v (p.2 ∙ sym q.2) one.0 in
    (more.0, cc (heads, more.1))

pub all_at : {X : Type 0} (P : X → Type 0) (xs ys : List X) (x : X) → AllByRecursion P ((xs ++ x ∷ []) ++ ys) → P x
all_at P [] ys x all = all.0
all_at P (y ∷ xs) ys x all = all_at P xs ys x all.1

no_first_flaw : FallIsNotOrdered → MissingFileIsNotThere
    → (text general : List ℕ) (options : Options) (section : List ℕ) (units : List (ℕ × UnitParts)) (reason : No)
    → IsGood text general options section units → IsFirstFlaw text general options section reason → ⊥
no_first_flaw falls missing text general options section units reason good f =
    let more = units_begin options.order 0 (f.units ++ f.unit ∷ []) units f.prefix f.rest section f.spelled good.spelled f.split in
    sound_well falls missing text general options.dead f.unit reason
    (all_at (IsSoundUnit text general options.dead) f.units more.0 f.unit
    (subst (AllByRecursion (IsSoundUnit text general options.dead)) more.1 good.sound)) f.flaw

pub no_flaw : FallIsNotOrdered → MissingFileIsNotThere → OverlapIsNotApart → GoodHasNoFlaw
no_flaw falls missing overlaps text general options section units (no.Malformed fault) good f = f.broken.none units good.spelled
no_flaw falls missing overlaps text general options section units (no.Overlap first second position) good f =
    let same : f.units ≡ units = one_section.units options.order f.units units section f.spelled good.spelled in
    overlaps (kept_sequences (selected options f.units)) (record { first = first; second = second; position = position })
    f.first
    (subst (λ (list : List (ℕ × UnitParts)). AreApart (kept_sequences (selected options list))) (sym same) good.apart)
no_flaw falls missing overlaps text general options section units (no.Run unit fault) good f =
    no_first_flaw falls missing text general options section units (no.Run unit fault) good f
no_flaw falls missing overlaps text general options section units (no.EntryFormat unit which) good f =
    no_first_flaw falls missing text general options section units (no.EntryFormat unit which) good f
no_flaw falls missing overlaps text general options section units (no.StringOutside unit which entry) good f =
    no_first_flaw falls missing text general options section units (no.StringOutside unit which entry) good f
no_flaw falls missing overlaps text general options section units (no.DirectoryNumber unit file) good f =
    no_first_flaw falls missing text general options section units (no.DirectoryNumber unit file) good f
no_flaw falls missing overlaps text general options section units (no.FileNumber unit row file) good f =
    no_first_flaw falls missing text general options section units (no.FileNumber unit row file) good f
no_flaw falls missing overlaps text general options section units (no.Falls unit row) good f =
    no_first_flaw falls missing text general options section units (no.Falls unit row) good f
