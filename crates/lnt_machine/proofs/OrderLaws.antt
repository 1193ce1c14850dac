-- Rows are the same in each byte order.
use Rattle.std.proofs.Common.{◌≡◌, ℕ, ◌+◌, ◌%◌, List, [], ◌∷◌, length, refl, sym, ap, subst, ◌∙◌}
use Rattle.std.specs.Prelude.{◌↔◌, true, false, ℤ, pos, ◌+ℤ◌, unsigned_abs, Option, Some}
use Rattle.std.specs.List.{cons_option}
use Rattle.lnt_wire.specs.declared.format.Order.{Order}
use Rattle.lnt_header.specs.declared.numbers.NumberParts.{NumberParts}
use Rattle.lnt_header.specs.declared.op.Op.{Op}
use Rattle.lnt_header.specs.declared.op.Op.TheVariants.{Special, Copy, AdvanceLine, FixedAdvancePc, EndSequence, SetAddress}
use Rattle.lnt_header.specs.Conversion.{in_order}
use Rattle.lnt_machine.specs.Laws.{SameMatrix}
use Rattle.lnt_machine.specs.Matrix.{row_of, end_row_of, row_made, rows_after, sequences_of, joined_rows, done}
use Rattle.lnt_machine.specs.Matrix.{LinesFit, RunsBy, IsRunFaultBy}
use Rattle.lnt_machine.specs.Registers.{advance_of, advances, moved, base, line_increment, line_sum, line, IsLine, part, file, column, isa}
use Rattle.lnt_machine.specs.Registers.{discriminator, is_stmt, basic_block, prologue_end, epilogue_begin, registers_after, Row}
use Rattle.lnt_machine.specs.declared.fault.RunFault.{RunFault}
use Rattle.lnt_machine.specs.declared.fault.RunFault.TheVariants.{LineOutOfRange, OpenSequence, Memory}

-- ---- registers

same_advances : (order : Order) (h : NumberParts) (back : List Op) → advances (in_order h order) back ≡ advances h back
same_advances order h [] = refl
same_advances order h (EndSequence ∷ back) = refl
same_advances order h (SetAddress a ∷ back) = refl
same_advances order h (FixedAdvancePc n ∷ back) = refl
same_advances order h (op ∷ back) = ap (λ (n : ℕ). advance_of h op + n) (same_advances order h back)

same_base : (order : Order) (h : NumberParts) (back : List Op) → base (in_order h order) back ≡ base h back
same_base order h [] = refl
same_base order h (EndSequence ∷ back) = refl
same_base order h (SetAddress a ∷ back) = refl
same_base order h (FixedAdvancePc n ∷ back) =
    ap (λ (from : ℕ). moved h from (advances (in_order h order) back) + n) (same_base order h back)
    ∙ ap (λ (by : ℕ). moved h (base h back) by + n) (same_advances order h back)
same_base order h (op ∷ back) = same_base order h back

same_increment : (order : Order) (h : NumberParts) (op : Op) → line_increment (in_order h order) op ≡ line_increment h op
same_increment order h (AdvanceLine z) = refl
same_increment order h (Special c) = refl
same_increment order h op = refl

same_sum : (order : Order) (h : NumberParts) (back : List Op) → line_sum (in_order h order) back ≡ line_sum h back
same_sum order h [] = refl
same_sum order h (op ∷ back) =
    ap (λ (z : ℤ). z +ℤ line_sum (in_order h order) back) (same_increment order h op)
    ∙ ap (λ (z : ℤ). line_increment h op +ℤ z) (same_sum order h back)

same_line : (order : Order) (h : NumberParts) (back : List Op) → line (in_order h order) back ≡ line h back
same_line order h back = ap (λ (z : ℤ). pos 1 +ℤ z) (same_sum order h (part back))

-- the registers, by the three sums
by_sums : NumberParts → List Op → ℕ → ℕ → ℤ → Row
by_sums h back from by moves = record {
  address = moved h from by;
  op_index = by % h.max_ops;
  file = file back;
  line = unsigned_abs (pos 1 +ℤ moves);
  column = column back;
  isa = isa back;
  discriminator = discriminator back;
  is_stmt = is_stmt h back;
  basic_block = basic_block back;
  end_sequence = false;
  prologue_end = prologue_end back;
  epilogue_begin = epilogue_begin back;
}

same_registers : (order : Order) (h : NumberParts) (back : List Op) → registers_after (in_order h order) back ≡ registers_after h back
unfolding by_sums
same_registers order h back =
    let g = in_order h order in
    ap (λ (from : ℕ). by_sums h back from (advances g back) (line_sum g (part back))) (same_base order h back)
    ∙ ap (λ (by : ℕ). by_sums h back (base h back) by (line_sum g (part back))) (same_advances order h back)
    ∙ ap (λ (moves : ℤ). by_sums h back (base h back) (advances h back) moves) (same_sum order h (part back))

-- ---- rows

same_row : (order : Order) (h : NumberParts) (back : List Op) (op : Op) → row_of (in_order h order) back op ≡ row_of h back op
same_row order h back op =
    ap (λ (r : Row). record r {
      discriminator = discriminator back;
      basic_block = basic_block back;
      prologue_end = prologue_end back;
      epilogue_begin = epilogue_begin back;
    }) (same_registers order h (op ∷ back))

same_end_row : (order : Order) (h : NumberParts) (back : List Op) → end_row_of (in_order h order) back ≡ end_row_of h back
same_end_row order h back = ap (λ (r : Row). record r { end_sequence = true }) (same_registers order h back)

same_made : (order : Order) (h : NumberParts) (back : List Op) (op : Op) → row_made (in_order h order) back op ≡ row_made h back op
same_made order h back Copy = ap Some (same_row order h back Copy)
same_made order h back (Special c) = ap Some (same_row order h back (Special c))
same_made order h back EndSequence = ap Some (same_end_row order h back)
same_made order h back op = refl

same_rows : (order : Order) (h : NumberParts) (back ops : List Op) → rows_after (in_order h order) back ops ≡ rows_after h back ops
same_rows order h back [] = refl
same_rows order h back (op ∷ ops) =
    ap (λ (row : Option Row). cons_option row (rows_after (in_order h order) (op ∷ back) ops)) (same_made order h back op)
    ∙ ap (λ (more : List Row). cons_option (row_made h back op) more) (same_rows order h (op ∷ back) ops)

-- ---- how the program runs

-- the lines of one are those of the other
lines_over : (g h : NumberParts) (ops : List Op) (k : ℕ) → ((back : List Op) → line g back ≡ line h back) → LinesFit g ops k
    → LinesFit h ops k
lines_over g h ops k same fit j le = subst IsLine (same (done ops j)) (fit j le)

closed_over : (us vs : List Row) → us ≡ vs → joined_rows (sequences_of us) ≡ us → joined_rows (sequences_of vs) ≡ vs
closed_over us vs same closed = subst (λ (rows : List Row). joined_rows (sequences_of rows) ≡ rows) same closed

runs_over : (g h : NumberParts) (ops : List Op) → ((back : List Op) → line g back ≡ line h back)
    → rows_after g [] ops ≡ rows_after h [] ops → RunsBy g ops → RunsBy h ops
runs_over g h ops lines same runs = record {
  lines = lines_over g h ops (length ops) lines runs.lines;
  closed = closed_over (rows_after g [] ops) (rows_after h [] ops) same runs.closed;
}

fault_over : (g h : NumberParts) (ops : List Op) → ((back : List Op) → line g back ≡ line h back)
    → rows_after g [] ops ≡ rows_after h [] ops → (fault : RunFault) → IsRunFaultBy g ops fault → IsRunFaultBy h ops fault
fault_over g h ops lines same (LineOutOfRange k) (within, fit, leaves) =
    (within, lines_over g h ops k lines fit, λ is. leaves (subst IsLine (sym (lines (done ops (k + 1)))) is))
fault_over g h ops lines same OpenSequence (fit, left) = (
  lines_over g h ops (length ops) lines fit,
  λ closed. left (closed_over (rows_after h [] ops) (rows_after g [] ops) (sym same) closed),
)
fault_over g h ops lines same Memory is = tt

-- in another order it runs where it runs
runs_alike : (order : Order) (h : NumberParts) (ops : List Op) → RunsBy (in_order h order) ops ↔ RunsBy h ops
runs_alike order h ops =
    let g = in_order h order in
    let rows = same_rows order h [] ops in (
      runs_over g h ops (same_line order h) rows,
      runs_over h g ops (λ back. sym (same_line order h back)) (sym rows),
    )

-- and doesn't run for the same reasons
faults_alike : (order : Order) (h : NumberParts) (ops : List Op) (fault : RunFault)
    → IsRunFaultBy (in_order h order) ops fault ↔ IsRunFaultBy h ops fault
faults_alike order h ops fault =
    let g = in_order h order in
    let rows = same_rows order h [] ops in (
      fault_over g h ops (same_line order h) rows fault,
      fault_over h g ops (λ back. sym (same_line order h back)) (sym rows) fault,
    )

pub same_matrix : SameMatrix
same_matrix = record {
  same_rows = λ unit format order. same_rows order unit.header.numbers [] unit.ops;
  same_sequences = λ unit format order. ap sequences_of (same_rows order unit.header.numbers [] unit.ops);
  runs = λ unit format order. runs_alike order unit.header.numbers unit.ops;
  faults = λ unit format order. faults_alike order unit.header.numbers unit.ops;
}
