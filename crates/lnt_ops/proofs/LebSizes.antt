-- How long the shortest unsigned LEB128 of a number is.
use Rattle.std.proofs.Common.{◌≡◌, ℕ, suc, refl, ◌+◌, ◌/◌, ◌%◌, ◌^◌, ◌<◌, ◌≤◌, List, [], ◌∷◌, length, ap, arith, rules}
use Rattle.lnt_wire.specs.Bytes.{IsShortest}
use Rattle.lnt_wire.specs.Leb128.{IsLeb, groups, UnsignedLeb}
use Rattle.lnt_ops.proofs.ViewLaws.{leb_is_some}
use Rattle.std.proofs.lemmas.Grind.{common_steps}

-- a spelling of this length
record OfLength (n size : ℕ) : Type 0 where
  spelling : List ℕ
  spelled : UnsignedLeb n spelling
  size_is : length spelling ≡ size

-- one more group before
longer : (m : ℕ) (rest : List ℕ) (size : ℕ) → m < 2 ^ 64 → UnsignedLeb (m / 128) rest → length rest ≡ size → OfLength m (suc size)
longer m [] size fits p is = absurd p.shape
longer m (b ∷ rest) size fits p is = record {
  spelling = (m % 128 + 128) ∷ b ∷ rest;
  spelled = record { shape = (omega arith, p.shape); value = omega (arith, p.value); fits = fits };
  size_is = ap suc is;
}

-- a number that is no larger has a spelling that is as long
as_long : (m : ℕ) (bytes : List ℕ) → IsLeb bytes → m ≤ groups bytes → m < 2 ^ 64 → OfLength m (length bytes)
as_long m [] shape le fits = absurd shape
as_long m (b ∷ []) shape le fits =
    let small : m < 128 = omega (arith, shape) in
    record { spelling = m ∷ []; spelled = record { shape = small; value = omega (arith, small); fits = fits }; size_is = refl }
as_long m (b ∷ c ∷ bytes) shape le fits =
    let rest = as_long (m / 128) (c ∷ bytes) shape.1 (omega (arith, le)) (omega (arith, fits)) in
    longer m rest.spelling (length (c ∷ bytes)) fits rest.spelled rest.size_is

-- the shortest spelling of a number is no longer than a spelling of a larger one
pub shortest_of_less : (m n : ℕ) (x y : List ℕ) → m ≤ n → IsShortest UnsignedLeb m x → UnsignedLeb n y → length x ≤ length y
shortest_of_less m n x y le p q =
    let found = as_long m y q.shape (omega (arith, le, q.value)) (omega (arith, le, q.fits)) in
    omega (arith, p.shortest found.spelling found.spelled, found.size_is)

abbrev ten : List ℕ
ten = 255 ∷ 255 ∷ 255 ∷ 255 ∷ 255 ∷ 255 ∷ 255 ∷ 255 ∷ 255 ∷ 127 ∷ []

ten_leb : IsLeb ten
ten_leb = search (rules, arith)

-- ten groups say any number below 2 ^ 64
pub at_most_ten : (n : ℕ) (x : List ℕ) → IsShortest UnsignedLeb n x → length x ≤ 10
at_most_ten n x p =
    let found = as_long n ten ten_leb (omega (arith, p.spelled.fits)) p.spelled.fits in
    omega (arith, p.shortest found.spelling found.spelled, found.size_is)

-- a number below 128 is its own shortest spelling
pub one_group : (n : ℕ) → n < 128 → IsShortest UnsignedLeb n (n ∷ [])
one_group n lt = grind (arith, common_steps, leb_is_some)
