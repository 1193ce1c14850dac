-- One unit whose program ran to its end, judged.
use Rattle.std.proofs.Common.{◌≡◌, ℕ, List, sym, subst, Option, Some, None, MatchOption}
use Rattle.std.specs.Option.{option_map, option_or}
use Rattle.lnt_header.specs.Parts.{HeaderParts}
use Rattle.lnt_unit.specs.Views.{View}
use Rattle.lnt_files.specs.declared.tables.EntryTableFault.{EntryTableFault}
use Rattle.lnt_files.specs.declared.tables.EntryTableFault.TheVariants.{EntryFormat}
use Rattle.lnt_files.specs.Tables.{AreUsableTables, IsTablesFault}
use Rattle.lnt_sequences.specs.declared.watch.MissingFile.{MissingFile}
use Rattle.lnt_sequences.proofs.UnitLaws.{collects_more}
use Rattle.lnt_sequences.specs.Sequences.{live_sequences}
use Rattle.lnt_machine.specs.declared.row.Row.{Row}
use Rattle.lnt_lines.specs.declared.no.No.TheVariants.{Falls}
use Rattle.lnt_lines.specs.declared.run.Findings.{Findings}
use Rattle.lnt_lines.specs.Good.{IsWellFormed}
use Rattle.lnt_lines.specs.Judging.{HasRun, IsFlawedRun, IsSoundRun, IsUnitNo}
use Rattle.lnt_lines.specs.Running.{missing_no, table_no}

-- ---- what is wrong with it

flaw_in_tables : (text general : List ℕ) (dead : Option ℕ) (view : View) (unit : ℕ) (C : List Row → Type 0) (places : List ℕ)
    (found : Findings) (fault : EntryTableFault) → HasRun dead view C places found
    → unit ≡ view.unit.offset → IsTablesFault text general view.header fault → IsUnitNo text general dead view.unit (table_no unit fault)
flaw_in_tables text general dead view unit C places found (EntryFormat which) run at f =
    record {
      unit = run.unit;
      spelled = run.spelled;
      flaw = (at, run.runs, subst (λ (h : HeaderParts). IsTablesFault text general h (EntryFormat which)) (sym run.header_is) f);
    }
flaw_in_tables text general dead view unit C places found fault run at f =
    record {
      unit = run.unit;
      spelled = run.spelled;
      flaw = (at, run.runs, subst (λ (h : HeaderParts). IsTablesFault text general h fault) (sym run.header_is) f);
    }

well_formed : {text general : List ℕ} {dead : Option ℕ} {view : View} {header : HeaderParts} {C : List Row → Type 0} {places : List ℕ}
    {found : Findings} → (run : HasRun dead view C places found) → header ≡ view.header
    → AreUsableTables text general header → IsWellFormed text general run.unit
well_formed run header_is usable = record { runs = run.runs; tables = rw run.header_is (rw (← header_is) usable) }

-- ---- the first thing that is wrong with it, if anything is

pub flaw_judged : (text general : List ℕ) (view : View) (header : HeaderParts) (unit : ℕ) (tables : Option EntryTableFault)
    (missing : Option MissingFile) (falls : Option ℕ) → unit ≡ view.unit.offset → header ≡ view.header
    → MatchOption tables (AreUsableTables text general header) (IsTablesFault text general header)
    → MatchOption (option_or (option_or (option_map (table_no unit) tables) (option_map (missing_no unit) missing))
    (option_map (Falls unit) falls)) (IsSoundRun text general view (record { missing = missing; falls = falls }))
    (IsFlawedRun text general view (record { missing = missing; falls = falls }))
flaw_judged text general view header unit (Some fault) missing falls at header_is fault_is = λ dead places old new run.
    flaw_in_tables text general dead view unit _ places _ fault run at
    (subst (λ (h : HeaderParts). IsTablesFault text general h fault) header_is fault_is)
flaw_judged text general view header unit None (Some missing) falls at header_is usable = λ dead places old new run.
    record { unit = run.unit; spelled = run.spelled; flaw = (at, well_formed run header_is usable, run.files) }
flaw_judged text general view header unit None None (Some row) at header_is usable = λ dead places old new run.
    record { unit = run.unit; spelled = run.spelled; flaw = (at, well_formed run header_is usable, run.files, run.ordered) }
flaw_judged text general view header unit None None None at header_is usable = λ dead places old new run.
    record {
      unit = run.unit;
      spelled = run.spelled;
      sound = record { well_formed = well_formed run header_is usable; files = run.files; ordered = run.ordered };
      keeps = run.kept;
      collects = λ units c. collects_more dead units (view.unit.offset, run.unit) new run.runs run.few
          (run.collects (live_sequences dead units) c);
    }
