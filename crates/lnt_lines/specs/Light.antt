-- A unit's program, run with a look at as little of its rows as shows that nothing is wrong with them. No public contract speaks of it.
use Rattle.std.specs.Prelude.{◌≡◌, ℕ, ◌+◌, ◌-◌, ◌^◌, ◌<◌, ◌≤◌, Bool, true, false, cond, List, [], ◌∷◌, ◌++◌, length, map}
use Rattle.std.specs.Prelude.{Option, Some, None}
use Rattle.lnt_header.specs.declared.op.OpView.{OpView}
use Rattle.lnt_machine.specs.declared.row.Row.{Row}
use Rattle.lnt_ops.specs.Walks.{GivesOperation, Walk}
use Rattle.lnt_unit.specs.Views.{View}
use Rattle.lnt_sequences.specs.declared.watch.Current.{Current}
use Rattle.lnt_sequences.specs.declared.watch.Watch.{Watch}
use Rattle.lnt_sequences.specs.Sequences.{begins_live, position_of}
use Rattle.lnt_sequences.specs.declared.collected.Collected.{Collected}
use Rattle.lnt_sequences.specs.Watching.{extent_shown, HasSeen, shown, start}
use Rattle.lnt_lines.specs.declared.light.Begun.{Begun}
use Rattle.lnt_lines.specs.declared.light.Light.{Light}
use Rattle.lnt_lines.specs.declared.light.Passed.{Passed}
use Rattle.lnt_lines.specs.Judging.{CollectsAlso}
use Rattle.lnt_lines.specs.Running.{RanSoFar}

-- a row of which no more is told than an address, and whether it ends its sequence
abbrev pub row_at_address : ℕ → Bool → Row
row_at_address address ends = record {
  address = address;
  op_index = 0;
  file = 0;
  line = 0;
  column = 0;
  isa = 0;
  discriminator = 0;
  is_stmt = false;
  basic_block = false;
  end_sequence = ends;
  prologue_end = false;
  epilogue_begin = false;
}

-- the first row of passed sequences and their end row, so far as they are known
abbrev pub ends_of : List Passed → List Row
ends_of [] = []
ends_of (passed ∷ more) = row_at_address passed.low false ∷ row_at_address passed.high true ∷ ends_of more

-- where passed sequences begin in the program
abbrev pub passed_places : List Passed → List ℕ
passed_places passed = map (λ (each : Passed). each.place) passed

-- As much is collected of the rows of the unit at an offset as of the ends of its sequences.
abbrev pub AreCollectedBy : Option ℕ → ℕ → List Passed → List Row → Type 0
AreCollectedBy dead unit passed rows = shown (extent_shown dead unit) start rows ≡ shown (extent_shown dead unit) start (ends_of passed)

-- the sequence that hasn't ended, as a watch remembers it
abbrev pub current_begun : Option ℕ → Begun → Option Current
current_begun dead begun = cond begun.has_row (Some (record {
  live = begins_live dead (row_at_address begun.low false);
  low = position_of (row_at_address begun.low false);
  last = position_of (row_at_address begun.last false);
})) None

-- What was passed so far. A watch that had seen the rows would have found nothing wrong with them.
pub record HasPassed (dead : Option ℕ) (view : View) (walk : Walk) (light : Light) (passed : List Passed) : Type 0 where
  pub watch : Watch
  pub ran : RanSoFar dead view (AreCollectedBy dead view.unit.offset passed) walk light.run watch (passed_places passed) light.place
  pub dead_is : watch.dead ≡ dead
  pub unit_is : watch.unit ≡ view.unit.offset
  pub files_is : watch.files ≡ length view.header.files
  pub falls : watch.falls ≡ None
  pub missing : watch.missing_file ≡ None
  pub ended : watch.ended ≡ length passed
  pub current : watch.current ≡ current_begun dead light.begun
  pub from_first : light.begun.has_row ≡ false → light.begun.last ≡ 0
  pub few : length passed ≤ 4096

-- The program ends below 2^64. Its number of bytes is known, and that of the unit's files.
pub record Fits (view : View) (light : Light) : Type 0 where
  pub room : view.place + length view.program < 2 ^ 64
  pub length_is : light.length ≡ length view.program
  pub files_is : light.files ≡ length view.header.files

-- Whatever was passed so far, the operation that the walk gives is passed, after which this many bytes are left.
abbrev pub PassesBy : OpView → ℕ → Light → Light → List Passed → List Passed → Type 0
PassesBy item left light light' passed passed' =
    (dead : Option ℕ) (view : View) (walk walk' : Walk) → HasPassed dead view walk light passed → GivesOperation item walk walk'
    → Fits view light → left ≡ length walk'.at.rest → HasPassed dead view walk' light' passed'

-- Whatever was passed so far, all up to the new place of the walk is passed.
abbrev pub PassesTo : Walk → Walk → Light → Light → List Passed → List Passed → Type 0
PassesTo walk walk' light light' passed passed' =
    (dead : Option ℕ) (view : View) → HasPassed dead view walk light passed → Fits view light → HasPassed dead view walk' light' passed'

-- the address of the first row of a sequence, with one more row
abbrev pub low_with : Begun → Row → ℕ
low_with begun row = cond begun.has_row begun.low row.address

-- The row was seen: it is all right after those of the sequence so far. If it ends the sequence, that is passed, and the next one begins
-- where this many bytes of the program are left.
pub record Sees (row : Row) (left : ℕ) (light light' : Light) (passed passed' : List Passed) : Type 0 where
  pub op : row.op_index ≡ 0
  pub rises : light.begun.last ≤ row.address
  pub file : row.end_sequence ≡ false → row.file < light.files
  pub goes_on : row.end_sequence ≡ false → (passed' ≡ passed) × (light'.place ≡ light.place)
      × (light'.begun ≡ record { has_row = true; low = low_with light.begun row; last = row.address })
  pub ends : row.end_sequence ≡ true → (length passed < 4096) × (light'.place ≡ light.length - left)
      × (passed' ≡ passed ++ record { place = light.place; low = low_with light.begun row; high = row.address } ∷ [])
      × (light'.begun ≡ record { has_row = false; low = 0; last = 0 })

-- The watch has seen the ends of these sequences, which are collected, too, and their places are these.
pub record HasCollected (dead : Option ℕ) (unit : ℕ) (passed : List Passed) (watch : Watch) (old now : Collected) (places : List ℕ)
    : Type 0 where
  pub seen : HasSeen dead unit 0 watch (ends_of passed)
  pub collects : CollectsAlso dead unit old now (ends_of passed)
  pub places_are : places ≡ passed_places passed

-- Whatever was collected of passed sequences, this one is, too.
abbrev pub CollectsOne : Passed → Watch → Watch → Collected → Collected → List ℕ → List ℕ → Type 0
CollectsOne one watch watch' now now' places places' =
    (dead : Option ℕ) (unit : ℕ) (passed : List Passed) (old : Collected) → HasCollected dead unit passed watch old now places
    → HasCollected dead unit (passed ++ one ∷ []) watch' old now' places'
