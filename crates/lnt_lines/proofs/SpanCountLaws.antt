-- A section has no more spans than bytes.
use Rattle.std.proofs.Common.{ℕ, ◌+◌, ◌≤◌, List, [], ◌∷◌, length, ap, arith, IsPermutation, length-append}
use Rattle.std.proofs.lemmas.List.Sorted.{length_permutation}
use Rattle.lnt_wire.specs.declared.format.Order.{Order}
use Rattle.lnt_header.specs.declared.unit_parts.UnitParts.{UnitParts}
use Rattle.lnt_unit.specs.UnitBytes.{SectionBytes, UnitsFrom}
use Rattle.lnt_unit.proofs.CountLaws.{ops_within}
use Rattle.lnt_machine.specs.Matrix.{rows}
use Rattle.lnt_machine.proofs.RowLaws.{few_rows}
use Rattle.lnt_spans.specs.declared.span.Span.{Span}
use Rattle.lnt_sequences.specs.RowSpans.{spans_of}
use Rattle.lnt_sequences.specs.Sequences.{kept_sequences, Selection}
use Rattle.lnt_sequences.proofs.CountLaws.{rows_of_units, spans_within_rows}

-- A unit makes a row for each of some operations, and each operation is spelled by a byte or more.
rows_within : (order : Order) (offset : ℕ) (units : List (ℕ × UnitParts)) (bytes : List ℕ) → UnitsFrom order offset units bytes
    → length (rows_of_units units) ≤ length bytes
rows_within order offset [] bytes spelled = omega arith
rows_within order offset (unit ∷ units) bytes (prefix, back, at, first, joined, later) =
    omega (
      arith,
      few_rows unit.1.header.numbers [] unit.1.ops,
      ops_within order unit.1 prefix first,
      rows_within order (offset + length prefix) units back later,
      ap length joined,
      length-append prefix back,
      length-append (rows unit.1) (rows_of_units units),
    )

-- The kept sequences of a section have no more spans than the section has bytes.
pub spans_within_section : (order : Order) (selection : Selection) (section : List ℕ)
    → SectionBytes order selection.units section → length (spans_of (kept_sequences selection)) ≤ length section
spans_within_section order selection section spelled =
    omega (arith, spans_within_rows selection, rows_within order 0 selection.units section spelled)

-- So it is of the same spans in any order.
pub permuted_within_section : (order : Order) (selection : Selection) (section : List ℕ) (spans : List Span)
    → IsPermutation (spans_of (kept_sequences selection)) spans → SectionBytes order selection.units section → length spans ≤ length section
permuted_within_section order selection section spans same spelled =
    omega (
      arith,
      spans_within_section order selection section spelled,
      length_permutation (spans_of (kept_sequences selection)) spans same,
    )
