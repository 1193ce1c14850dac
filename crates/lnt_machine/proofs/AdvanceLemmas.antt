-- Advances of operations, one after another and by parts.
use Rattle.std.proofs.Common.{◌≡◌, ℕ, ◌+◌, ◌*◌, ◌/◌, ◌%◌, ◌^◌, ◌<◌, refl, ap, ◌∙◌, arith}
use Rattle.std.proofs.Math.Nat.{mod-add-div, add-mod-mod, add-mul-div_left, add-mul-mod_self_left}
use Rattle.lnt_header.specs.declared.numbers.NumberParts.{NumberParts}
use Rattle.lnt_machine.specs.declared.row.Row.{Row}
use Rattle.lnt_machine.specs.Changes.{advanced}

-- n more than a, where m go into one
pub div_more : (n a m : ℕ) → 0 < m → (n + a) / m ≡ (a % m + n) / m + a / m
div_more n a m some =
    let parts : n + a ≡ (a % m + n) + m * (a / m) = omega (arith, mod-add-div a m) in
    ap (λ (t : ℕ). t / m) parts ∙ add-mul-div_left (a % m + n) (a / m) some

pub mod_more : (n a m : ℕ) → (n + a) % m ≡ (a % m + n) % m
mod_more n a m =
    let parts : n + a ≡ (a % m + n) + m * (a / m) = omega (arith, mod-add-div a m) in
    ap (λ (t : ℕ). t % m) parts ∙ add-mul-mod_self_left (a % m + n) m (a / m)

-- n more than i, by parts of n
div_parts : (n i m : ℕ) → 0 < m → n / m + (i + n % m) / m ≡ (i + n) / m
div_parts n i m some =
    let parts : i + n ≡ (i + n % m) + m * (n / m) = omega (arith, mod-add-div n m) in
    let sum : (i + n) / m ≡ (i + n % m) / m + n / m = ap (λ (t : ℕ). t / m) parts ∙ add-mul-div_left (i + n % m) (n / m) some in
    omega arith

-- registers at another place
abbrev at_place : Row → ℕ → ℕ → Row
at_place r address op_index = record r { address = address; op_index = op_index }

-- an advance of n by parts of n
pub advanced_by_parts : (h : NumberParts) (r : Row) (n m a : ℕ) → m ≡ h.max_ops → 0 < m
    → a ≡ (r.address + h.minimum_instruction_length * (n / m + (r.op_index + n % m) / m)) % 2 ^ (8 * h.address_size)
    → record r { address = a; op_index = (r.op_index + n % m) % m } ≡ advanced h r n
advanced_by_parts h r n m a same some at =
    let address : a ≡ (advanced h r n).address = rw (div_parts n r.op_index m some, same) at at in
    let index : (r.op_index + n % m) % m ≡ (advanced h r n).op_index = rw (add-mod-mod, same) refl in
    ap (λ (x : ℕ). at_place r x ((r.op_index + n % m) % m)) address ∙ ap (λ (x : ℕ). at_place r (advanced h r n).address x) index
