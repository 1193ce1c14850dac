-- What is wrong with a field that is truncated or out of range.
--     before   the bytes up to the place of the fault
--     left     the bytes from the place on up to the limit of the field
use Rattle.std.specs.Prelude.{◌≡◌, ℕ, ◌<◌, List, ◌++◌, length, ◌≤◌, ◌⊎◌, [], ◌∷◌}
use Rattle.lnt_wire.specs.declared.fault.Reason.{Reason}
use Rattle.lnt_header.specs.Joins.{Each}
use Rattle.lnt_wire.specs.FormBytes.{HasNoZero}
use Rattle.lnt_wire.specs.declared.format.Order.{Order}
use Rattle.lnt_wire.specs.Numbers.{NumberBytes}
use Rattle.lnt_wire.specs.Leb128.{IsLeb, AreHigh, UnsignedLeb, IsLargeUnsigned, IsLargeSigned}
use Rattle.lnt_header.specs.OpRules.{FitsTaken, taken_by}

-- ---- the first invalid part of several joined parts: the parts before it are valid, one after the other, and the fault is its
-- own.
--     before   the bytes up to the place of the fault
--     left     the bytes from the place on

-- the first fault of a value and one after it, whose kind of encoding depends on the first value
pub data FirstOf {X : Type 0} (First : X → List ℕ → Type 0) (OfFirst : Reason → List ℕ → List ℕ → Type 0)
    (OfSecond : X → Reason → List ℕ → List ℕ → Type 0) (reason : Reason) (before left : List ℕ) : Type 0 where
  first : OfFirst reason before left → FirstOf First OfFirst OfSecond reason before left
  second : (x : X) (prefix past : List ℕ) → First x prefix → before ≡ prefix ++ past → OfSecond x reason past left
      → FirstOf First OfFirst OfSecond reason before left

-- the first fault of n values, one after another
pub data FirstOfSeveral {X : Type 0} (n : ℕ) (Spells : X → List ℕ → Type 0) (OfOne : Reason → List ℕ → List ℕ → Type 0) (reason : Reason)
    (before left : List ℕ) : Type 0 where
  next : (xs : List X) (prefix past : List ℕ) → length xs < n → Each Spells xs prefix → before ≡ prefix ++ past → OfOne reason past left
      → FirstOfSeveral n Spells OfOne reason before left

-- ---- one field

-- The field ends after the limit: a number of a fixed width, a text, a LEB128, a block, or the bytes of an extended operation.
pub data IsCutField (before left : List ℕ) : Type 0 where
  number : (size : ℕ) → size ≤ 16 → length left < size → IsCutField before left
  text : HasNoZero left → IsCutField before left
  leb : AreHigh left → IsCutField before left
  block : (n : ℕ) (spelling rest : List ℕ) → UnsignedLeb n spelling → left ≡ spelling ++ rest → length rest < n → IsCutField before left
  sized_block : (order : Order) (size n : ℕ) (spelling rest : List ℕ) → size ≤ 4 → NumberBytes order size n spelling
      → left ≡ spelling ++ rest → length rest < n → IsCutField before left
  operation : (n : ℕ) (earlier spelling : List ℕ) → UnsignedLeb n spelling → before ≡ earlier ++ 0 ∷ spelling → length left < n
      → IsCutField before left

-- a complete LEB128 number that doesn't fit in 64 bits, read as an unsigned or as a signed one
abbrev pub IsLargeLeb : List ℕ → Type 0
IsLargeLeb left =
    (spelling : List ℕ) × (rest : List ℕ) × IsLeb spelling × (left ≡ spelling ++ rest) × (IsLargeUnsigned spelling ⊎ IsLargeSigned spelling)

-- What follows an extended operation's length isn't an operand of its code.
abbrev pub IsWrongOperand : ℕ → List ℕ → Type 0
IsWrongOperand address_size [] = Unit {0}
IsWrongOperand address_size (code ∷ operand) = FitsTaken address_size (taken_by code) operand → ⊥

-- the length of an extended operation, and bytes that don't fit it
abbrev pub IsWrongLength : ℕ → List ℕ → Type 0
IsWrongLength address_size left =
    (spelling : List ℕ) × (operation : List ℕ) × (rest : List ℕ) × UnsignedLeb (length operation) spelling
    × (left ≡ spelling ++ operation ++ rest) × IsWrongOperand address_size operation
