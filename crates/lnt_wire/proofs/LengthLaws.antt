-- Numbers of a fixed width and initial lengths have one spelling each, which is the prefix of no other's. Crates above cite these.
use Rattle.std.proofs.Common.{◌≡◌, ℕ, zero, suc, ◌^◌, ◌<◌, ◌≤◌, List, [], ◌∷◌, ◌++◌, length, refl, sym, ap, ◌∙◌, append_assoc, arith}
use Rattle.std.proofs.lemmas.List.{append_cancel_left, length-append}
use Rattle.std.proofs.lemmas.Nat.{from_le_bytes-to_le_bytes_2, from_be_bytes-to_be_bytes_2, from_le_bytes-to_le_bytes_4}
use Rattle.std.proofs.lemmas.Nat.{from_be_bytes-to_be_bytes_4, from_le_bytes-to_le_bytes_8, from_be_bytes-to_be_bytes_8}
use Rattle.std.specs.Int.{bytes_low_first, bytes_high_first}
use Rattle.lnt_wire.specs.Numbers.{number_bytes, Order, Format}
use Rattle.lnt_wire.specs.FrameBytes.{initial_length, LengthFits}
use Rattle.std.proofs.lemmas.Grind.{common_steps}

-- ---- prefixes of one length

pub same_prefix : (x y r s : List ℕ) → length x ≡ length y → x ++ r ≡ y ++ s → x ≡ y
same_prefix [] [] r s len e = refl
same_prefix [] (b ∷ y) r s len e = absurd (omega arith)
same_prefix (a ∷ x) [] r s len e = absurd (omega arith)
same_prefix (a ∷ x) (b ∷ y) r s len e =
    let heads : a ≡ b = cc in
    let tails : x ++ r ≡ y ++ s = cc in
    let n : length x ≡ length y = omega arith in
    let rest : x ≡ y = same_prefix x y r s n tails in
    cc

-- what follows prefixes that are the same
pub same_rest : (x y r s : List ℕ) → x ≡ y → x ++ r ≡ y ++ s → r ≡ s
same_rest x y r s same e = append_cancel_left y r s (ap (λ (t : List ℕ). t ++ r) (sym same) ∙ e)

-- ---- numbers of fixed width

length-low : (i size n : ℕ) → length (bytes_low_first i size n) ≡ size
length-low i zero n = refl
length-low i (suc size) n = ap suc (length-low (suc i) size n)

length-high : (size n : ℕ) → length (bytes_high_first size n) ≡ size
length-high zero n = refl
length-high (suc size) n = ap suc (length-high size n)

pub length-number_bytes : (order : Order) (size n : ℕ) → length (number_bytes order size n) ≡ size
length-number_bytes order size n = grind (arith, common_steps, length-low, length-high)

-- a width at which the bytes determine the number
pub record IsWidth (size : ℕ) : Type 0 where
  pub same : (order : Order) (m n : ℕ) → m < 256 ^ size → n < 256 ^ size → number_bytes order size m ≡ number_bytes order size n → m ≡ n

same_1 : (order : Order) (m n : ℕ) → m < 256 → n < 256 → number_bytes order 1 m ≡ number_bytes order 1 n → m ≡ n
same_1 order m n p q e = grind (arith, common_steps)

same_2 : (order : Order) (m n : ℕ) → m < 2 ^ 16 → n < 2 ^ 16 → number_bytes order 2 m ≡ number_bytes order 2 n → m ≡ n
same_2 order m n p q e = grind (arith, common_steps, from_le_bytes-to_le_bytes_2, from_be_bytes-to_be_bytes_2)

same_4 : (order : Order) (m n : ℕ) → m < 2 ^ 32 → n < 2 ^ 32 → number_bytes order 4 m ≡ number_bytes order 4 n → m ≡ n
same_4 order m n p q e = grind (arith, common_steps, from_le_bytes-to_le_bytes_4, from_be_bytes-to_be_bytes_4)

same_8 : (order : Order) (m n : ℕ) → m < 2 ^ 64 → n < 2 ^ 64 → number_bytes order 8 m ≡ number_bytes order 8 n → m ≡ n
same_8 order m n p q e = grind (arith, common_steps, from_le_bytes-to_le_bytes_8, from_be_bytes-to_be_bytes_8)

pub width_1 : IsWidth 1
width_1 = record { same = same_1 }

pub width_2 : IsWidth 2
width_2 = record { same = same_2 }

pub width_4 : IsWidth 4
width_4 = record { same = same_4 }

pub width_8 : IsWidth 8
width_8 = record { same = same_8 }

-- a number in prefix
pub same_number_prefix : (order : Order) (size : ℕ) → IsWidth size → (m n : ℕ) (r s : List ℕ) → m < 256 ^ size → n < 256 ^ size
    → number_bytes order size m ++ r ≡ number_bytes order size n ++ s → (m ≡ n) × (r ≡ s)
same_number_prefix order size width m n r s p q e =
    let same : number_bytes order size m ≡ number_bytes order size n =
    same_prefix (number_bytes order size m) (number_bytes order size n) r s
    (length-number_bytes order size m ∙ sym (length-number_bytes order size n)) e in
    (width.same order m n p q same, same_rest (number_bytes order size m) (number_bytes order size n) r s same e)

-- ---- initial lengths

-- two initial lengths, and what follows them, are the same
pub record SameLength (f g : Format) (m n : ℕ) (r s : List ℕ) : Type 0 where
  pub format : f ≡ g
  pub number : m ≡ n
  pub past : r ≡ s

pub length-initial : (format : Format) (order : Order) (n : ℕ) → 4 ≤ length (initial_length format order n)
length-initial format order n = grind (arith, common_steps, length-number_bytes, length-append)

pub same_length : (order : Order) (f g : Format) (m n : ℕ) (r s : List ℕ) → LengthFits f m → LengthFits g n
    → initial_length f order m ++ r ≡ initial_length g order n ++ s → SameLength f g m n r s
same_length order f g m n r s p q e = grind (arith, common_steps, same_number_prefix, width_4, append_assoc, append_cancel_left, width_8)
