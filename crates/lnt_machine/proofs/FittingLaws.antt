-- The numbers of rows are of at most 64 bits: those of operations are, since bytes spell them, and those of a header are.
use Rattle.std.proofs.Common.{◌≡◌, ℕ, ◌*◌, ◌^◌, ◌<◌, ◌≤◌, List, [], ◌∷◌, ◌++◌, length, refl, sym, ap, subst, ◌∙◌, arith, inl, inr, reverse}
use Rattle.std.proofs.Common.{slice_index_or}
use Rattle.std.specs.List.{AllByRecursion, cons_option}
use Rattle.std.proofs.Math.Nat.{mod-lt}
use Rattle.std.proofs.Math.Pow.{pow_pos}
use Rattle.std.proofs.lemmas.Int.{ints}
use Rattle.lnt_header.specs.Parts.{HeaderParts}
use Rattle.lnt_header.specs.declared.numbers.NumberParts.{NumberParts}
use Rattle.lnt_header.specs.declared.op.Op.{Op}
use Rattle.lnt_header.specs.declared.op.Op.TheVariants.{Special, Copy, EndSequence}
use Rattle.lnt_header.specs.HeaderRules.{AreHeaderNumbers, IsAddressSize}
use Rattle.lnt_header.specs.Joins.{Each}
use Rattle.lnt_ops.proofs.OpLaws.{op_allowed}
use Rattle.lnt_ops.specs.OpBytes.{OpBytes}
use Rattle.lnt_ops.specs.Spelled.{FitsOp}
use Rattle.lnt_header.specs.declared.unit_parts.UnitParts.{UnitParts}
use Rattle.lnt_machine.specs.Matrix.{end_row_of, row_made, row_of, rows_after, sequences, sequences_of, Row, Sequence}
use Rattle.lnt_machine.specs.Running.{AtStart, rows_of_ops}
use Rattle.lnt_machine.specs.Registers.{column, discriminator, file, isa, IsLine, line, registers_after}
use Rattle.lnt_machine.specs.Walking.{IsPlaceOf, KeptProgram, KeepsProgram, LinesAfter}
use Rattle.lnt_machine.proofs.PartLaws.{rows_at_start, sequences_of_parts}
use Rattle.lnt_machine.proofs.SequenceLaws.{each_cut, EachRow}
use Rattle.lnt_machine.proofs.StepLemmas.{line_bounded}

-- a row whose numbers are of at most 64 bits
pub record FitsRow (row : Row) : Type 0 where
  pub address : row.address < 2 ^ 64
  pub op_index : row.op_index < 2 ^ 64
  pub file : row.file < 2 ^ 64
  pub line : row.line < 2 ^ 64
  pub column : row.column < 2 ^ 64
  pub isa : row.isa < 2 ^ 64
  pub discriminator : row.discriminator < 2 ^ 64

abbrev pub FitRows : List Row → Type 0
FitRows rows = AllByRecursion FitsRow rows

abbrev pub FitsSequence : Sequence → Type 0
FitsSequence = EachRow FitsRow

-- ---- registers

-- What the operations of `back` leave in the registers that operands are put in fits, and their line is in range.
record LeaveFitting (h : NumberParts) (back : List Op) : Type 0 where
  file : file back < 2 ^ 64
  column : column back < 2 ^ 64
  isa : isa back < 2 ^ 64
  discriminator : discriminator back < 2 ^ 64
  line : IsLine (line h back)

fitting_start : (h : NumberParts) (back : List Op) → AtStart back → LeaveFitting h back
fitting_start h [] start = record {
  file = omega arith;
  column = omega arith;
  isa = omega arith;
  discriminator = omega arith;
  line = (omega (arith, ints), omega (arith, ints));
}
fitting_start h (EndSequence ∷ back) start = record {
  file = omega arith;
  column = omega arith;
  isa = omega arith;
  discriminator = omega arith;
  line = (omega (arith, ints), omega (arith, ints));
}
fitting_start h (op ∷ back) start = absurd start

-- an operand is put in a register as it is, or not at all
fitting_by : (h : NumberParts) (back : List Op) (op : Op) → LeaveFitting h back → FitsOp op → IsLine (line h (op ∷ back))
    → LeaveFitting h (op ∷ back)
fitting_by h back Copy f says fits = record {
  file = f.file;
  column = f.column;
  isa = f.isa;
  discriminator = omega arith;
  line = fits;
}
fitting_by h back (Special c) f says fits = record {
  file = f.file;
  column = f.column;
  isa = f.isa;
  discriminator = omega arith;
  line = fits;
}
fitting_by h back EndSequence f says fits = fitting_start h (EndSequence ∷ back) tt
fitting_by h back op f says fits = record {
  file = omega (arith, f.file);
  column = omega (arith, f.column);
  isa = omega (arith, f.isa);
  discriminator = omega (arith, f.discriminator);
  line = fits;
}

-- what bytes spell is of at most 64 bits
fitting_more : (h : NumberParts) (back : List Op) (op : Op) (x : List ℕ) → LeaveFitting h back → OpBytes h op x
    → IsLine (line h (op ∷ back)) → LeaveFitting h (op ∷ back)
fitting_more h back op x f p fits = fitting_by h back op f (op_allowed h op x p).1 fits

size_fits : (size : ℕ) → IsAddressSize size → 2 ^ (8 * size) ≤ 2 ^ 64
size_fits size (inl is) = rw is (omega arith)
size_fits size (inr (inl is)) = rw is (omega arith)
size_fits size (inr (inr is)) = rw is (omega arith)

registers_fit : (h : NumberParts) (back : List Op) → AreHeaderNumbers h → LeaveFitting h back → FitsRow (registers_after h back)
registers_fit h back numbers f =
    let r = registers_after h back in
    let cut : r.address < 2 ^ (8 * h.address_size) = mod-lt _ (pow_pos (8 * h.address_size)) in
    let index : r.op_index < h.max_ops = mod-lt _ numbers.max_ops in
    record {
      address = omega (arith, cut, size_fits h.address_size numbers.address_size);
      op_index = omega (arith, index, numbers.bytes.1.0);
      file = f.file;
      line = omega (arith, line_bounded (line h back) f.line);
      column = f.column;
      isa = f.isa;
      discriminator = f.discriminator;
    }

-- ---- rows

row_fits : (h : NumberParts) (back : List Op) (op : Op) → AreHeaderNumbers h → LeaveFitting h back → LeaveFitting h (op ∷ back)
    → FitsRow (row_of h back op)
row_fits h back op numbers before f =
    let all = registers_fit h (op ∷ back) numbers f in
    record {
      address = all.address;
      op_index = all.op_index;
      file = all.file;
      line = all.line;
      column = all.column;
      isa = all.isa;
      discriminator = before.discriminator;
    }

end_row_fits : (h : NumberParts) (back : List Op) → AreHeaderNumbers h → LeaveFitting h back → FitsRow (end_row_of h back)
end_row_fits h back numbers before =
    let all = registers_fit h back numbers before in
    record {
      address = all.address;
      op_index = all.op_index;
      file = all.file;
      line = all.line;
      column = all.column;
      isa = all.isa;
      discriminator = all.discriminator;
    }

made_fits : (h : NumberParts) (back : List Op) (op : Op) (later : List Row) → AreHeaderNumbers h → LeaveFitting h back
    → LeaveFitting h (op ∷ back) → FitRows later → FitRows (cons_option (row_made h back op) later)
made_fits h back Copy later numbers before f rest = (row_fits h back Copy numbers before f, rest)
made_fits h back (Special c) later numbers before f rest = (row_fits h back (Special c) numbers before f, rest)
made_fits h back EndSequence later numbers before f rest = (end_row_fits h back numbers before, rest)
made_fits h back op later numbers before f rest = rest

rows_fit : (h : NumberParts) (back ops : List Op) (x : List ℕ) → AreHeaderNumbers h → LeaveFitting h back → Each (OpBytes h) ops x
    → LinesAfter h back ops → FitRows (rows_after h back ops)
rows_fit h back [] x numbers f spelled lines = tt
rows_fit h back (op ∷ ops) x numbers f spelled lines =
    let more = fitting_more h back op spelled.prefix f spelled.first lines.0 in
    made_fits h back op (rows_after h (op ∷ back) ops) numbers f more
    (rows_fit h (op ∷ back) ops spelled.back numbers more spelled.second lines.1)

-- ---- sequences

-- No sequence ends before the place of the first one, so that its operations and the later ones make all of them.
fit_from_first : (unit : UnitParts) (program : List ℕ) (place : ℕ) → AreHeaderNumbers unit.header.numbers → IsPlaceOf unit program 0 place
    → AllByRecursion FitsSequence (sequences unit)
fit_from_first unit program place numbers is =
    let h = unit.header.numbers in
    let at = is.place_is in
    let later = rows_fit h (reverse is.earlier) is.later at.place_is.rest numbers (fitting_start h (reverse is.earlier) at.start)
    at.place_is.later_spelled at.lines in
    let all : sequences unit ≡ sequences_of (rows_of_ops h is.earlier) ++ sequences_of (rows_of_ops h is.later) =
    ap (λ (ops : List Op). sequences_of (rows_of_ops h ops)) is.ops_are ∙ sequences_of_parts h is.earlier is.later at.start in
    subst (AllByRecursion FitsSequence) (sym all)
    (after_none (sequences_of (rows_of_ops h is.earlier)) (sequences_of (rows_of_ops h is.later)) is.index_is
    (each_cut FitsRow (rows_of_ops h is.later) (subst FitRows (rows_at_start h (reverse is.earlier) is.later at.start) later)))
  where
    after_none : (before past : List Sequence) → 0 ≡ length before → AllByRecursion FitsSequence past
        → AllByRecursion FitsSequence (before ++ past)
    after_none [] past none fits = fits
    after_none (first ∷ before) past none fits = absurd (omega arith)

-- the header that is kept has numbers that can be read
abbrev pub HasNumbers : KeptProgram → Type 0
HasNumbers kept = AreHeaderNumbers kept.header.numbers

-- The rows in sequences of a unit whose program is kept fit.
pub kept_fits : (kept : KeptProgram) (unit : UnitParts) → HasNumbers kept → KeepsProgram kept unit
    → AllByRecursion FitsSequence (sequences unit)
kept_fits kept unit numbers keeps = by_first (sequences unit) refl
  where
    by_first : (all : List Sequence) → sequences unit ≡ all → AllByRecursion FitsSequence all
    by_first [] are = tt
    by_first (first ∷ others) are =
        subst (AllByRecursion FitsSequence) are
        (fit_from_first unit kept.program (slice_index_or kept.places 0 0) (subst (λ (h : HeaderParts). AreHeaderNumbers h.numbers)
        keeps.header_is numbers)
        (keeps.places 0 0 (omega (arith, keeps.count, ap length are))))
