-- Numbers as text.
use Rattle.std.specs.Prelude.{◌≡◌, ℕ, ◌+◌, ◌-◌, ◌*◌, ◌^◌, ◌<◌, ◌≤◌, ◌⊎◌, List, [], ◌∷◌, ◌++◌, length, if◌then◌else◌, nat_lt}
use Rattle.std.specs.List.{AllByRecursion}
pub use Rattle.lnt_text.specs.declared.radix.Radix.{Radix}
use Rattle.lnt_text.specs.declared.radix.Radix.TheVariants.{Ten, Sixteen}

-- ---- digits

-- 0 to 9
abbrev pub IsDecimalDigit : ℕ → Type 0
IsDecimalDigit c = (48 ≤ c) × (c < 58)

-- 0 to 9, A to F or a to f
abbrev pub IsHexadecimalDigit : ℕ → Type 0
IsHexadecimalDigit c = IsDecimalDigit c ⊎ ((65 ≤ c) × (c < 71)) ⊎ ((97 ≤ c) × (c < 103))

abbrev pub IsDigit : Radix → ℕ → Type 0
IsDigit Ten c = IsDecimalDigit c
IsDigit Sixteen c = IsHexadecimalDigit c

-- the value of a digit
abbrev pub digit_value : ℕ → ℕ
digit_value c = if nat_lt c 58 then c - 48 else if nat_lt c 71 then c - 55 else c - 87

-- the digit with this value, a letter in lower case
abbrev pub digit_code : ℕ → ℕ
digit_code d = if nat_lt d 10 then 48 + d else 87 + d

-- ---- numbers

abbrev pub radix_base : Radix → ℕ
radix_base Ten = 10
radix_base Sixteen = 16

abbrev pub most_digits : Radix → ℕ
most_digits Ten = 20
most_digits Sixteen = 16

-- the number of some digits after those of `value`
abbrev pub digits_value : ℕ → ℕ → List ℕ → ℕ
digits_value radix value [] = value
digits_value radix value (c ∷ text) = digits_value radix (value * radix + digit_value c) text

-- 1 to 20 decimal digits, or 1 to 16 hexadecimal ones, of a number below 2 ^ 64
pub record IsNumber (radix : Radix) (text : List ℕ) (n : ℕ) : Type 0 where
  pub digits : AllByRecursion (IsDigit radix) text
  pub some : 0 < length text
  pub few : length text ≤ most_digits radix
  pub value : n ≡ digits_value (radix_base radix) 0 text
  pub fits : n < 2 ^ 64

abbrev pub IsDecimal : List ℕ → ℕ → Type 0
IsDecimal text n = IsNumber Ten text n

-- 1 to 3 decimal digits, of a number up to 100
pub record IsPercentage (text : List ℕ) (n : ℕ) : Type 0 where
  pub number : IsDecimal text n
  pub few : length text ≤ 3
  pub most : n ≤ 100

-- 0x and a hexadecimal number
pub record IsAddress (text : List ℕ) (n : ℕ) : Type 0 where
  pub digits : List ℕ
  pub written : text ≡ 48 ∷ 120 ∷ digits
  pub number : IsNumber Sixteen digits n

-- ---- numbers as they are written

-- The digits don't begin with a zero, unless they are a single zero.
abbrev pub HasNoLeadingZero : List ℕ → Type 0
HasNoLeadingZero [] = Unit {0}
HasNoLeadingZero (c ∷ []) = Unit {0}
HasNoLeadingZero (c ∷ d ∷ text) = 48 < c

-- no letter from A to Z
abbrev pub IsLower : ℕ → Type 0
IsLower c = (c < 65) ⊎ (91 ≤ c)

-- without leading zeros, and in lower case
pub record IsPlain (radix : Radix) (text : List ℕ) (n : ℕ) : Type 0 where
  pub number : IsNumber radix text n
  pub no_zero : HasNoLeadingZero text
  pub lower : AllByRecursion IsLower text

abbrev pub IsPlainDecimal : List ℕ → ℕ → Type 0
IsPlainDecimal text n = IsPlain Ten text n

pub record IsPlainAddress (text : List ℕ) (n : ℕ) : Type 0 where
  pub digits : List ℕ
  pub written : text ≡ 48 ∷ 120 ∷ digits
  pub plain : IsPlain Sixteen digits n

-- A text of n was appended.
pub record Puts (Spells : List ℕ → ℕ → Type 0) (n : ℕ) (old new : List ℕ) : Type 0 where
  pub text : List ℕ
  pub joined : new ≡ old ++ text
  pub spells : Spells text n

-- ---- a text that begins with a number, up to a byte that ends it

-- The text begins with a text of n, then the byte `end`, then `rest`.
pub record Begins (Spells : List ℕ → ℕ → Type 0) (text : List ℕ) (n end : ℕ) (rest : List ℕ) : Type 0 where
  pub prefix : List ℕ
  pub joined : text ≡ prefix ++ end ∷ rest
  pub spells : Spells prefix n
