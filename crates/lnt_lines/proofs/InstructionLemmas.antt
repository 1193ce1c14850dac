-- Where no instruction has more than one operation, each row stands at operation index 0, and so does each border of a span.
use Rattle.std.proofs.Common.{◌≡◌, ◌∙◌, ℕ, ◌%◌, List, [], ◌∷◌, ap, sym, IsPermutation}
use Rattle.std.specs.List.{All, AllByRecursion, AllZip, cons_option}
use Rattle.std.proofs.lemmas.List.Elements.{recursion_from_All}
use Rattle.std.proofs.lemmas.List.Sorted.{All-permutation}
use native.Mathlib.Nat.{mod-one}
use Rattle.lnt_header.specs.declared.numbers.NumberParts.{NumberParts}
use Rattle.lnt_header.specs.Parts.{HeaderParts}
use Rattle.lnt_header.specs.declared.op.Op.{Op}
use Rattle.lnt_header.specs.declared.op.Op.TheVariants.{Special, Copy, EndSequence}
use Rattle.lnt_header.specs.declared.unit_parts.UnitParts.{UnitParts}
use Rattle.lnt_machine.specs.declared.row.Row.{Row}
use Rattle.lnt_machine.specs.Matrix.{row_made, rows, rows_after}
use Rattle.lnt_machine.specs.Registers.{advances, op_index}
use Rattle.lnt_machine.specs.Walking.{KeepsProgram, KeptProgram}
use Rattle.lnt_machine.proofs.SequenceLaws.{each_cut}
use Rattle.lnt_spans.specs.declared.span.Span.{Span}
use Rattle.lnt_sequences.specs.RowSpans.{spans_of}
use Rattle.lnt_sequences.specs.Sequences.{kept_sequences, Selection}
use Rattle.lnt_sequences.proofs.EachLaws.{each_kept_span, EachIn}
use Rattle.lnt_lines.specs.Indexed.{HasOneOperation, Indexed, IsIndexOf}
use Rattle.lnt_spans.specs.Spans.{IsOfInstructions}

-- ---- rows

abbrev IsFirst : Row → Type 0
IsFirst row = row.op_index ≡ 0

abbrev AreFirst : List Row → Type 0
AreFirst rows = AllByRecursion IsFirst rows

index_zero : (h : NumberParts) (back : List Op) → h.max_ops ≡ 1 → op_index h back ≡ 0
index_zero h back one = ap (λ (m : ℕ). advances h back % m) one ∙ mod-one (advances h back)

one_made : (h : NumberParts) (back : List Op) (op : Op) (later : List Row) → h.max_ops ≡ 1 → AreFirst later
    → AreFirst (cons_option (row_made h back op) later)
one_made h back Copy later one rest = (index_zero h (Copy ∷ back) one, rest)
one_made h back (Special c) later one rest = (index_zero h (Special c ∷ back) one, rest)
one_made h back EndSequence later one rest = (index_zero h back one, rest)
one_made h back op later one rest = rest

all_made : (h : NumberParts) (back ops : List Op) → h.max_ops ≡ 1 → AreFirst (rows_after h back ops)
all_made h back [] one = tt
all_made h back (op ∷ ops) one = one_made h back op (rows_after h (op ∷ back) ops) one (all_made h (op ∷ back) ops one)

-- ---- units

-- any unit, at whatever offset
abbrev IsAny : ℕ → Type 0
IsAny offset = Unit {0}

of_units : (units : List (ℕ × UnitParts)) (programs : List KeptProgram) → AllZip (λ unit kept. KeepsProgram kept unit.1) units programs
    → AllByRecursion HasOneOperation programs → AllByRecursion (EachIn IsAny IsFirst) units
of_units [] programs keeps one = tt
of_units (unit ∷ units) [] keeps one = absurd keeps
of_units (unit ∷ units) (kept ∷ programs) keeps one =
    let made = all_made unit.1.header.numbers [] unit.1.ops (ap (λ (h : HeaderParts). h.numbers.max_ops) (sym keeps.0.header_is) ∙ one.0) in
    (record { offset = tt; rows = each_cut IsFirst (rows unit.1) made }, of_units units programs keeps.1 one.1)

-- ---- spans

pub spans_of_instructions : (index : Indexed) (selection : Selection) (spans : List Span) → All HasOneOperation index.programs
    → IsIndexOf selection index → IsPermutation (spans_of (kept_sequences selection)) spans → AllByRecursion IsOfInstructions spans
spans_of_instructions index selection spans one is same =
    let first = of_units selection.units index.programs is.programs (recursion_from_All HasOneOperation index.programs one) in
    let all = each_kept_span IsAny IsFirst IsOfInstructions selection (λ unit row next any low high. (low, high)) first in
    recursion_from_All IsOfInstructions spans (All-permutation IsOfInstructions (spans_of (kept_sequences selection)) spans same all)
