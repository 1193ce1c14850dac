-- What the bytes of a number's text are, and that a text says one number.
use Rattle.std.proofs.Common.{◌≡◌, ◌∙◌, ℕ, ◌≤◌, List, [], ◌∷◌, sym, arith}
use Rattle.std.specs.List.{AllByRecursion}
use Rattle.lnt_text.specs.declared.radix.Radix.TheVariants.{Ten}
use Rattle.lnt_text.specs.Digits.{IsAddress, IsDecimal, IsDigit, IsPlainAddress, Radix}
use Rattle.std.proofs.lemmas.Grind.{common_steps}

-- ---- one number

pub one_decimal_number : (text : List ℕ) (m n : ℕ) → IsDecimal text m → IsDecimal text n → m ≡ n
one_decimal_number text m n a b = a.value ∙ sym b.value

pub one_address_number : (text : List ℕ) (m n : ℕ) → IsAddress text m → IsAddress text n → m ≡ n
one_address_number text m n a b = grind (arith, common_steps)

pub plain_address : (text : List ℕ) (n : ℕ) → IsPlainAddress text n → IsAddress text n
plain_address text n h = record { digits = h.digits; written = h.written; number = h.plain.number }

-- ---- no byte below that of 0

abbrev pub FromZero : ℕ → Type 0
FromZero c = 48 ≤ c

digit_from_zero : (radix : Radix) (c : ℕ) → IsDigit radix c → FromZero c
digit_from_zero radix c h = grind (arith, common_steps)

digits_from_zero : (radix : Radix) (text : List ℕ) → AllByRecursion (IsDigit radix) text → AllByRecursion FromZero text
digits_from_zero radix [] h = tt
digits_from_zero radix (c ∷ text) h = (digit_from_zero radix c h.0, digits_from_zero radix text h.1)

pub decimal_from_zero : (text : List ℕ) (n : ℕ) → IsDecimal text n → AllByRecursion FromZero text
decimal_from_zero text n h = digits_from_zero Ten text h.digits

pub address_from_zero : (text : List ℕ) (n : ℕ) → IsAddress text n → AllByRecursion FromZero text
address_from_zero text n h = grind (arith, common_steps, digits_from_zero)
