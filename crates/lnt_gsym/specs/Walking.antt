-- What the values of the code say of rows and functions that are still to come. No public contract speaks of it.
use Rattle.std.specs.Prelude.{◌≡◌, ℕ, zero, suc, ◌+◌, ◌-◌, ◌^◌, ◌<◌, Bool, nat_lt, true, false, List, [], ◌∷◌}
use Rattle.std.specs.Prelude.{length}
use Rattle.std.specs.Prelude.{if◌then◌else◌, Option, None, Some, Result, Ok, Err}
use Rattle.lnt_wire.specs.Reading.{At}
use Rattle.lnt_spans.specs.declared.span.Span.{Span}
use Rattle.lnt_gsym.specs.GsymInfos.{Function, LineNumbers, made, operation, Row, row_reason}
use Rattle.lnt_gsym.specs.GsymFiles.{Gsym}
use Rattle.lnt_gsym.specs.GsymSpans.{gate_at, last_after, less, row_spans}
use Rattle.lnt_gsym.specs.Reading.{moved}
use Rattle.lnt_gsym.specs.declared.fault.GsymFault.{GsymFault}
use Rattle.lnt_gsym.specs.declared.gate.Gate.{Gate}

-- ---- rows

-- the rows that the operations from here on make, after those that led to a row
abbrev pub rows_after : ℕ → ℕ → LineNumbers → Row → At → Result (List Row) GsymFault
rows_after zero files numbers row at = Ok []
rows_after (suc room) files numbers row at = elim (operation numbers at) [
  | Err fault ↦ Err fault
  | Ok read ↦ elim (read.0) [
    | None ↦ Ok []
    | Some done ↦ elim (done.makes_row) [
      | false ↦ rows_after room files numbers (moved row done) read.1
      | true ↦ made at (row_reason files (moved row done)) (moved row done) (rows_after room files numbers (moved row done) read.1)
    ]
  ]
]

-- They make these rows.
pub record HasRows (files : ℕ) (numbers : LineNumbers) (row : Row) (at : At) (rows : List Row) : Type 0 where
  pub room : ℕ
  pub enough : length at.rest < room
  pub read : rows_after room files numbers row at ≡ Ok rows

-- a row that was made, if there is one, and what the operations after it stand in
pub record MadeSaid : Type 0 where
  pub at : At
  pub numbers : LineNumbers
  pub row : Option Row

-- These rows are left: the one that was made, and those that the operations after it make.
abbrev pub LeftBy : ℕ → LineNumbers → At → Option Row → List Row → Type 0
LeftBy files numbers at None rows = rows ≡ []
LeftBy files numbers at (Some row) rows = (rest : List Row) × (rows ≡ row ∷ rest) × HasRows files numbers row at rest

abbrev pub AreLeft : ℕ → MadeSaid → List Row → Type 0
AreLeft files said rows = LeftBy files said.numbers said.at said.row rows

-- The first of the rows was taken, and the others are left; or there is none.
abbrev pub TakesRow : ℕ → MadeSaid → List Row → Option Row → Type 0
TakesRow files new rows None = rows ≡ []
TakesRow files new rows (Some row) = (rest : List Row) × (rows ≡ row ∷ rest) × AreLeft files new rest

-- an upper bound on the number of rows that are left
abbrev pub left_by : Option Row → ℕ → ℕ
left_by None room = 0
left_by (Some row) room = suc room

abbrev pub count_left : MadeSaid → ℕ
count_left said = left_by said.row (length said.at.rest)

-- where the row that was made begins, at most at `high`
abbrev pub begins_by : ℕ → Option Row → ℕ
begins_by high None = high
begins_by high (Some row) = less row.address high

-- ---- functions

-- What was read of the info of a function says so, with what its line tables before the last say of an address.
pub record IsFunction (files address size name : ℕ) (gate : Gate) (rows : MadeSaid) (f : Function) : Type 0 where
  pub size_is : size ≡ f.size
  pub name_is : name ≡ f.name
  pub gate_is : gate ≡ gate_at address f.tables
  pub left : AreLeft files rows (last_after [] f.tables)

-- The rows are those of the last of these tables, and `gate` is what the others say of an address.
pub record IsLast (files address : ℕ) (gate : Gate) (rows : MadeSaid) (tables : List (List Row)) : Type 0 where
  pub gate_is : gate ≡ gate_at address tables
  pub left : AreLeft files rows (last_after [] tables)

-- ---- entries

pub record EntriesSaid : Type 0 where
  pub base : ℕ
  pub starts : List ℕ
  pub infos : List ℕ

-- The first entry starts so and has its info at this place, and the others are left.
pub record GivesEntry (old new : EntriesSaid) (start place : ℕ) : Type 0 where
  pub offset : ℕ
  pub start_is : start ≡ old.base + offset
  pub starts : old.starts ≡ offset ∷ new.starts
  pub infos : old.infos ≡ place ∷ new.infos
  pub base_is : new.base ≡ old.base

-- where the first entry begins that starts above an address, at most at the end of a table
abbrev pub next_start : ℕ → ℕ → List ℕ → ℕ
next_start base start [] = 2 ^ 64 - 1
next_start base start (offset ∷ offsets) =
    if nat_lt start (base + offset) then less (base + offset) (2 ^ 64 - 1) else next_start base start offsets

-- ---- names

pub record NamesSaid : Type 0 where
  pub strings : List ℕ
  pub files : List (ℕ × ℕ)

-- whether a text has a byte
abbrev pub has_bytes : List ℕ → Bool
has_bytes [] = false
has_bytes (c ∷ text) = true

-- a file with these names and no functions
abbrev pub named : NamesSaid → Gsym
named names = record { functions = []; files = names.files; strings = names.strings }

-- ---- spans

-- The first span of the rows between two addresses was given, and the rows after it are left; or there is none.
abbrev pub GivesPart : (Row → Bool) → ℕ → ℕ → ℕ → List Row → MadeSaid → Option Span → Type 0
GivesPart tells files low high rows new None = row_spans tells low high rows ≡ []
GivesPart tells files low high rows new (Some span) = (rest : List Row)
    × (row_spans tells low high rows ≡ span ∷ row_spans tells low high rest) × AreLeft files new rest
