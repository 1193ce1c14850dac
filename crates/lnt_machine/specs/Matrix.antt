-- The rows and the sequences of a line number program (DWARF 5, sections 6.2.2 and 6.2.5).
use Rattle.std.specs.Prelude.{◌≡◌, ℕ, ◌+◌, ◌<◌, ◌≤◌, true, cond, List, [], ◌∷◌, length, take, reverse, Option, Some, None}
use Rattle.std.specs.List.{cons_option, flat_map}
use Rattle.lnt_header.specs.declared.numbers.NumberParts.{NumberParts}
use Rattle.lnt_header.specs.declared.unit_parts.UnitParts.{UnitParts}
use Rattle.lnt_header.specs.declared.op.Op.{Op}
use Rattle.lnt_header.specs.declared.op.Op.TheVariants.{Special, Copy, EndSequence}
use Rattle.lnt_machine.specs.declared.fault.RunFault.{RunFault}
use Rattle.lnt_machine.specs.declared.fault.RunFault.TheVariants.{LineOutOfRange, OpenSequence, Memory}
pub use Rattle.lnt_machine.specs.declared.row.Row.{Row}
pub use Rattle.lnt_machine.specs.declared.row.Sequence.{Sequence}
use Rattle.lnt_machine.specs.Registers.{registers_after, discriminator, basic_block, prologue_end, epilogue_begin, line, IsLine}

-- The row of a Copy or a Special after `back`: the registers after it, but with the discriminator and the flags that were set before
-- it.
abbrev pub row_of : NumberParts → List Op → Op → Row
row_of h back op = record (registers_after h (op ∷ back)) {
  discriminator = discriminator back;
  basic_block = basic_block back;
  prologue_end = prologue_end back;
  epilogue_begin = epilogue_begin back;
}

-- The row of an EndSequence that comes after `back`: the registers without it.
abbrev pub end_row_of : NumberParts → List Op → Row
end_row_of h back = record (registers_after h back) { end_sequence = true }

-- the row that an operation after `back` appends, if any
abbrev pub row_made : NumberParts → List Op → Op → Option Row
row_made h back Copy = Some (row_of h back Copy)
row_made h back (Special c) = Some (row_of h back (Special c))
row_made h back EndSequence = Some (end_row_of h back)
row_made h back _ = None

-- the rows of operations that come after `back`
abbrev pub rows_after : NumberParts → List Op → List Op → List Row
rows_after h back [] = []
rows_after h back (op ∷ ops) = cons_option (row_made h back op) (rows_after h (op ∷ back) ops)

-- the rows of a program
abbrev pub rows : UnitParts → List Row
rows unit = rows_after unit.header.numbers [] unit.ops

-- a row put before the first of some sequences; if there is none, it belongs to none
abbrev pub onto_first : Row → List Sequence → List Sequence
onto_first row [] = []
onto_first row (sequence ∷ sequences) = record { rows = row ∷ sequence.rows } ∷ sequences

-- The sequences of rows: each ends with an end row. Rows after the last end row belong to none.
abbrev pub sequences_of : List Row → List Sequence
sequences_of [] = []
sequences_of (row ∷ rows) = cond row.end_sequence (record { rows = row ∷ [] } ∷ sequences_of rows) (onto_first row (sequences_of rows))

-- the sequences of a program
abbrev pub sequences : UnitParts → List Sequence
sequences unit = sequences_of (rows unit)

-- the rows of sequences, one after another
abbrev pub joined_rows : List Sequence → List Row
joined_rows sequences = flat_map (λ sequence. sequence.rows) sequences

-- the first k operations of a program, the newest first
abbrev pub done : List Op → ℕ → List Op
done ops k = reverse (take k ops)

-- the line is in range before the operations, and after each of the first k
abbrev pub LinesFit : NumberParts → List Op → ℕ → Type 0
LinesFit h ops k = (j : ℕ) → j ≤ k → IsLine (line h (done ops j))

-- The operations run: the lines are in range, and each of the rows is in a sequence, so that none follows the last end row.
pub record RunsBy (h : NumberParts) (ops : List Op) : Type 0 where
  pub lines : LinesFit h ops (length ops)
  pub closed : joined_rows (sequences_of (rows_after h [] ops)) ≡ rows_after h [] ops

-- the program runs
abbrev pub Runs : UnitParts → Type 0
Runs unit = RunsBy unit.header.numbers unit.ops

-- Why operations don't run. The line leaves its range with an operation and with none before it; or no line does, and some
-- row is in no sequence. Lack of memory says nothing about the program.
abbrev pub IsRunFaultBy : NumberParts → List Op → RunFault → Type 0
IsRunFaultBy h ops (LineOutOfRange k) = (k < length ops) × LinesFit h ops k × (IsLine (line h (done ops (k + 1))) → ⊥)
IsRunFaultBy h ops OpenSequence =
    LinesFit h ops (length ops) × (joined_rows (sequences_of (rows_after h [] ops)) ≡ rows_after h [] ops → ⊥)
IsRunFaultBy h ops Memory = Unit {0}

-- why a program doesn't run
abbrev pub IsRunFault : UnitParts → RunFault → Type 0
IsRunFault unit fault = IsRunFaultBy unit.header.numbers unit.ops fault
