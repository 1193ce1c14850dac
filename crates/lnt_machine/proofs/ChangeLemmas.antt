-- Registers that an operation changes are those that looking back gives with this operation added.
use Rattle.std.proofs.Common.{◌≡◌, ℕ, zero, suc, ◌+◌, ◌*◌, ◌/◌, ◌%◌, ◌^◌, ◌<◌, List, ◌∷◌, refl, sym, ap, subst, ◌∙◌, arith, zero-add}
use Rattle.std.proofs.Common.{add-zero, mul-zero, pow-add, ℤ, pos, negsuc, ◌+ℤ◌, ◌≤ℤ◌, unsigned_abs, Some}
use Rattle.std.proofs.Math.Nat.{mod-add-mod, mod-eq_of_lt, pow-suc, zero-div, zero-mod}
use Rattle.std.proofs.Math.Pow.{pow_pos}
use Rattle.std.proofs.lemmas.Int.{ints}
use Rattle.lnt_header.specs.declared.numbers.NumberParts.{NumberParts}
use Rattle.lnt_header.specs.declared.op.Op.{Op}
use Rattle.lnt_header.specs.declared.op.Op.TheVariants.{Special, Copy, AdvancePc, AdvanceLine, ConstAddPc}
use Rattle.lnt_header.specs.declared.op.Op.TheVariants.{FixedAdvancePc, EndSequence, SetAddress}
use Rattle.lnt_machine.specs.Registers.{address, advance_of_special, advances, base, IsLine, line, line_increment}
use Rattle.lnt_machine.specs.Registers.{line_sum, moved, op_index, part, registers_after}
use Rattle.lnt_machine.specs.Changes.{advanced, changed, initial_registers, IsAllowed, line_reached, made, without_flags}
use Rattle.lnt_machine.specs.Matrix.{row_made, Row}
use Rattle.lnt_machine.proofs.AdvanceLemmas.{div_more, mod_more}

zero_add_z : (z : ℤ) → pos 0 +ℤ z ≡ z
zero_add_z z = omega (arith, ints)

-- n more operations after a
moved_more : (h : NumberParts) (from n a : ℕ) → 0 < h.max_ops
    → (moved h from a + h.minimum_instruction_length * ((a % h.max_ops + n) / h.max_ops)) % 2 ^ (8 * h.address_size) ≡ moved h from (n + a)
moved_more h from n a some =
    let size = 2 ^ (8 * h.address_size) in
    let minimum = h.minimum_instruction_length in
    let steps = (a % h.max_ops + n) / h.max_ops in
    let split : from + minimum * ((n + a) / h.max_ops) ≡ (from + minimum * (a / h.max_ops)) + minimum *
    steps = rw (div_more n a h.max_ops some) (grind arith) in
    mod-add-mod (from + minimum * (a / h.max_ops)) size (minimum * steps) ∙ sym (ap (λ (t : ℕ). t % size) split)

-- registers at another place
abbrev at_place : Row → ℕ → ℕ → Row
at_place r address op_index = record r { address = address; op_index = op_index }

advanced_after : (h : NumberParts) (back : List Op) (n : ℕ) → 0 < h.max_ops
    → advanced h (registers_after h back) n ≡ at_place (registers_after h back) (moved h (base h back) (n + advances h back))
    ((n + advances h back) % h.max_ops)
advanced_after h back n some =
    let r = registers_after h back in
    ap (λ (x : ℕ). at_place r x (advanced h r n).op_index) (moved_more h (base h back) n (advances h back) some)
    ∙ ap (λ (x : ℕ). at_place r (moved h (base h back) (n + advances h back)) x) (sym (mod_more n (advances h back) h.max_ops))

-- ---- the line

-- a number that isn't below 0
pub pos_abs : (z : ℤ) → pos 0 ≤ℤ z → pos (unsigned_abs z) ≡ z
pos_abs (pos n) le = refl
pos_abs (negsuc n) le = absurd (omega (arith, ints))

line_more : (s z : ℤ) → IsLine (pos 1 +ℤ s) → pos (unsigned_abs (pos 1 +ℤ s)) +ℤ z ≡ pos 1 +ℤ (z +ℤ s)
line_more s z fits = let same : pos (unsigned_abs (pos 1 +ℤ s)) ≡ pos 1 +ℤ s = pos_abs (pos 1 +ℤ s) fits.0 in omega (arith, ints)

-- registers on another line
abbrev on_line : Row → ℤ → Row
on_line r z = record r { line = unsigned_abs z }

-- ---- the address

pub pow_bytes : (size : ℕ) → 256 ^ size ≡ 2 ^ (8 * size)
pow_bytes zero = refl
pow_bytes (suc size) =
    pow-suc 256 size ∙ ap (λ (t : ℕ). t * 256) (pow_bytes size) ∙ sym (ap (λ (t : ℕ). 2 ^ t) eight ∙ pow-add 2 (8 * size) 8) where
      eight : 8 * suc size ≡ 8 * size + 8
      eight = omega arith

place_set : (h : NumberParts) (a : ℕ) → a < 2 ^ (8 * h.address_size) → a ≡ moved h a 0
place_set h a fits = sym (simp (zero-div, mul-zero, add-zero) (mod-eq_of_lt fits))

-- ---- all registers

pub changed_after : (h : NumberParts) (back : List Op) (op : Op) → 0 < h.max_ops → IsAllowed h op → IsLine (line h back)
    → changed h (registers_after h back) op ≡ registers_after h (op ∷ back)
changed_after h back (Special c) some allowed fits =
    let r = registers_after h back in
    let place = at_place r (address h (Special c ∷ back)) (op_index h (Special c ∷ back)) in
    ap (λ (x : Row). without_flags (on_line x (line_reached h r (Special c)))) (advanced_after h back (advance_of_special h c) some)
    ∙ ap (λ (z : ℤ). without_flags (on_line place z)) (line_more (line_sum h (part back)) (line_increment h (Special c)) fits)
changed_after h back Copy some allowed fits = simp (zero-add, zero_add_z)
changed_after h back (AdvancePc n) some allowed fits = rw (advanced_after h back n some) (simp zero_add_z)
changed_after h back (AdvanceLine z) some allowed fits =
    simp zero-add (ap (λ (x : ℤ). on_line (registers_after h back) x) (line_more (line_sum h (part back)) z fits))
changed_after h back ConstAddPc some allowed fits = rw (advanced_after h back (advance_of_special h 255) some) (simp zero_add_z)
changed_after h back (FixedAdvancePc n) some allowed fits = simp (zero-div, mul-zero, add-zero, zero-mod, zero_add_z)
changed_after h back EndSequence some allowed fits =
    ap (λ (x : ℕ). at_place (initial_registers h) x 0) (place_set h 0 (pow_pos (8 * h.address_size))) ∙ simp (zero-mod)
changed_after h back (SetAddress a) some allowed fits =
    let at : a ≡ moved h a 0 = place_set h a (subst (λ (t : ℕ). a < t) (pow_bytes h.address_size) allowed) in
    simp (zero-mod, zero_add_z) (ap (λ (x : ℕ). at_place (registers_after h back) x 0) at)
changed_after h back op some allowed fits = simp (zero-add, zero_add_z)

pub made_after : (h : NumberParts) (back : List Op) (op : Op) → 0 < h.max_ops → IsLine (line h back)
    → made h (registers_after h back) op ≡ row_made h back op
made_after h back (Special c) some fits =
    let r = registers_after h back in
    let place = at_place r (address h (Special c ∷ back)) (op_index h (Special c ∷ back)) in
    ap (λ (x : Row). Some (on_line x (line_reached h r (Special c)))) (advanced_after h back (advance_of_special h c) some)
    ∙ ap (λ (z : ℤ). Some (on_line place z)) (line_more (line_sum h (part back)) (line_increment h (Special c)) fits)
made_after h back Copy some fits = simp (zero-add, zero_add_z)
made_after h back EndSequence some fits = refl
made_after h back op some fits = refl

-- The line that an operation leads to is in range where the line with this operation added is.
pub line_from : (h : NumberParts) (back : List Op) (op : Op) → IsLine (line h back) → IsLine (line h (op ∷ back))
    → IsLine (line_reached h (registers_after h back) op)
line_from h back EndSequence fits more =
    let same : pos (unsigned_abs (line h back)) +ℤ pos 0 ≡ line h back = let abs : pos (unsigned_abs (line h back)) ≡ line h back = pos_abs
    (line h back) fits.0 in omega (arith, ints) in
    subst IsLine (sym same) fits
line_from h back op fits more = subst IsLine (sym (line_more (line_sum h (part back)) (line_increment h op) fits)) more

pub line_into : (h : NumberParts) (back : List Op) (op : Op) → IsLine (line h back) → IsLine (line_reached h (registers_after h back) op)
    → IsLine (line h (op ∷ back))
line_into h back EndSequence fits reached = (omega (arith, ints), omega (arith, ints))
line_into h back op fits reached = subst IsLine (line_more (line_sum h (part back)) (line_increment h op) fits) reached
