-- What the laws of numbers as text say.
use Rattle.std.specs.Prelude.{◌≡◌, ℕ, List}
use Rattle.lnt_text.specs.Digits.{IsPlainAddress, IsPlainDecimal}

-- A number has one text of decimal digits without leading zeros.
abbrev pub OneDecimal : Type 0
OneDecimal = (s t : List ℕ) (n : ℕ) → IsPlainDecimal s n → IsPlainDecimal t n → s ≡ t

-- A number has one text of 0x and hexadecimal digits in lower case without leading zeros.
abbrev pub OneAddress : Type 0
OneAddress = (s t : List ℕ) (n : ℕ) → IsPlainAddress s n → IsPlainAddress t n → s ≡ t
