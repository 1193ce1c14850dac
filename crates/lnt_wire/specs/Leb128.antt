-- LEB128 numbers: encoded in groups of seven bits, the lowest group first (DWARF 5, section 7.6).
use Rattle.std.specs.Prelude.{◌≡◌, ℕ, ◌+◌, ◌*◌, ◌%◌, ◌^◌, ◌<◌, ◌≤◌, Bool, false, nat_le, if◌then◌else◌, List, [], ◌∷◌, ◌++◌, length, ℤ, pos}
use Rattle.std.specs.Prelude.{◌-ℤ◌, FitsSigned, take}
use Rattle.std.specs.Int.{w64}
use Rattle.std.specs.List.{AllByRecursion}
use Rattle.lnt_wire.specs.declared.fault.Reason.{Reason}
use Rattle.lnt_wire.specs.declared.fault.Reason.TheVariants.{Truncated, LebTooLarge}

-- The bits of an encoding: each byte except the last has bit 7 set, and the last hasn't.
abbrev pub IsLeb : List ℕ → Type 0
IsLeb [] = ⊥
IsLeb (last ∷ []) = last < 128
IsLeb (byte ∷ next ∷ bytes) = (128 ≤ byte) × IsLeb (next ∷ bytes)

-- the unsigned number that the groups encode: the sum over all i of (byte i mod 128) * 128 ^ i
abbrev pub groups : List ℕ → ℕ
groups [] = 0
groups (byte ∷ bytes) = byte % 128 + 128 * groups bytes

-- bit 6 of the last byte, which is the sign of a signed number
abbrev pub has_sign : List ℕ → Bool
has_sign [] = false
has_sign (last ∷ []) = nat_le 64 last
has_sign (byte ∷ next ∷ bytes) = has_sign (next ∷ bytes)

-- the signed number that the groups encode, in two's complement
abbrev pub signed_groups : List ℕ → ℤ
signed_groups bytes = pos (groups bytes) -ℤ pos (if has_sign bytes then 128 ^ length bytes else 0)

-- The bytes encode the unsigned number, which is below 2 ^ 64. Groups of zeros at the end are allowed.
pub record UnsignedLeb (n : ℕ) (bytes : List ℕ) : Type 0 where
  pub shape : IsLeb bytes
  pub value : n ≡ groups bytes
  pub fits : n < 2 ^ 64

-- The bytes encode the signed number, which is from -2 ^ 63 to 2 ^ 63 - 1. Groups at the end that repeat the sign are
-- allowed.
pub record SignedLeb (z : ℤ) (bytes : List ℕ) : Type 0 where
  pub shape : IsLeb bytes
  pub value : z ≡ signed_groups bytes
  pub fits : FitsSigned w64 z

-- The groups encode an unsigned number of 2 ^ 64 or more.
abbrev pub IsLargeUnsigned : List ℕ → Type 0
IsLargeUnsigned bytes = 2 ^ 64 ≤ groups bytes

-- The groups encode a signed number below -2 ^ 63, or of 2 ^ 63 or more.
abbrev pub IsLargeSigned : List ℕ → Type 0
IsLargeSigned bytes = FitsSigned w64 (signed_groups bytes) → ⊥

-- Each byte has bit 7 set, so none is the last of a number.
abbrev pub AreHigh : List ℕ → Type 0
AreHigh bytes = AllByRecursion (λ byte. 128 ≤ byte) bytes

-- Why the bytes don't begin with a number of a kind: the last byte is missing; or it isn't, and the groups are out of range
-- (IsLarge).
abbrev pub IsLebFault : (List ℕ → Type 0) → Reason → List ℕ → Type 0
IsLebFault IsLarge Truncated bytes = AreHigh bytes
IsLebFault IsLarge LebTooLarge bytes =
    (spelling : List ℕ) × (rest : List ℕ) × IsLeb spelling × IsLarge spelling × (bytes ≡ spelling ++ rest)
IsLebFault IsLarge _ bytes = ⊥

-- ---- lEB128 numbers of at most 9 bytes, as their reader finds them. No public contract speaks of these.

-- The bytes begin with a number of at most 9 bytes: size is how many they are, sum the number that their groups encode, unsigned,
-- and scale one more than the greatest number of as many groups.
pub record IsShortLeb (size sum scale : ℕ) (bytes : List ℕ) : Type 0 where
  pub within : size ≤ length bytes
  pub few : size ≤ 9
  pub shape : IsLeb (take size bytes)
  pub sum_is : sum ≡ groups (take size bytes)
  pub scale_is : scale ≡ 128 ^ size
