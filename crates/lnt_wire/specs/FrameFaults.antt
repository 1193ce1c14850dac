-- What is wrong with bytes that don't begin with a frame (DWARF 5, sections 6.2.4 and 7.4). A fault has a place in the bytes,
-- which divides them:
--     before   the bytes before the place of the fault
--     from     the bytes from the place on, to the end of the section
use Rattle.std.specs.Prelude.{◌≡◌, ◌≢◌, ℕ, ◌^◌, ◌<◌, ◌≤◌, List, [], ◌∷◌, ◌++◌, length}
use Rattle.lnt_wire.specs.declared.fault.Reason.{Reason}
use Rattle.lnt_wire.specs.declared.fault.Reason.TheVariants.{Truncated, ReservedLength, VersionNotFive}
use Rattle.lnt_wire.specs.Numbers.{number_bytes, Order, Format}
use Rattle.lnt_wire.specs.FrameBytes.{initial_length, LengthFits}

-- The bytes begin with a whole unit, judged by its initial length. Its body is the fields before the place, and the rest from
-- there on.
pub record InFrame (order : Order) (format : Format) (fields left before from : List ℕ) : Type 0 where
  pub more : List ℕ
  pub fits : LengthFits format (length (fields ++ left))
  pub before_is : before ≡ initial_length format order (length (fields ++ left)) ++ fields
  pub from_is : from ≡ left ++ more

-- The initial length is truncated, in its first 4 bytes or in the 8 bytes after 0xffffffff; or it counts more bytes than
-- follow it.
pub data IsCutFrame (order : Order) (bytes : List ℕ) : Type 0 where
  no_length : length bytes < 4 → IsCutFrame order bytes
  no_wide_length : (rest : List ℕ) → bytes ≡ number_bytes order 4 0xffffffff ++ rest → length rest < 8 → IsCutFrame order bytes
  too_long : (format : Format) (n : ℕ) (rest : List ℕ) → LengthFits format n → bytes ≡ initial_length format order n ++ rest
      → length rest < n → IsCutFrame order bytes

-- The first 4 bytes are a number from 0xfffffff0 to 0xfffffffe, which are reserved (DWARF 5, section 7.4).
pub record IsReserved (order : Order) (bytes : List ℕ) : Type 0 where
  pub n : ℕ
  pub rest : List ℕ
  pub low : 0xfffffff0 ≤ n
  pub high : n < 0xffffffff
  pub joined : bytes ≡ number_bytes order 4 n ++ rest

-- The unit is whole by its initial length, and its body has fewer than the 2 bytes of a version.
abbrev pub IsCutVersion : Order → List ℕ → List ℕ → Type 0
IsCutVersion order before from =
    (format : Format) × (left : List ℕ) × (length left < 2) × InFrame order format [] left before from

-- The unit is whole by its initial length, and its version isn't 5.
abbrev pub IsOtherVersion : Order → ℕ → List ℕ → List ℕ → Type 0
IsOtherVersion order version before from =
    (format : Format) × (left : List ℕ) × (version < 2 ^ 16) × (version ≢ 5)
    × InFrame order format [] (number_bytes order 2 version ++ left) before from

-- The reasons why the bytes don't begin with a frame, each at its place: the first byte of the bytes, with nothing before it,
-- or that of the version.
abbrev pub IsFrameFault : Order → Reason → List ℕ → List ℕ → Type 0
IsFrameFault order Truncated [] from = IsCutFrame order from
IsFrameFault order Truncated (b ∷ before) from = IsCutVersion order (b ∷ before) from
IsFrameFault order ReservedLength before from = (before ≡ []) × IsReserved order from
IsFrameFault order (VersionNotFive version) before from = IsOtherVersion order version before from
IsFrameFault order _ before from = ⊥

-- The reasons why the bytes don't begin with a unit of any version: those of a frame that aren't another version.
abbrev pub IsPrefixFault : Order → Reason → List ℕ → List ℕ → Type 0
IsPrefixFault order reason before from = IsFrameFault order reason before from × ((version : ℕ) → reason ≢ VersionNotFive version)

-- ---- why the readers of a frame's parts fail: that of the initial length, and that of the version. Why bytes don't begin with a
-- frame is `IsFrameFault`.

-- Why the bytes don't begin with an initial length.
abbrev pub IsInitialFault : Order → Reason → List ℕ → Type 0
IsInitialFault order Truncated bytes = IsCutFrame order bytes
IsInitialFault order ReservedLength bytes = IsReserved order bytes
IsInitialFault order _ bytes = ⊥

-- Why the body of a unit doesn't begin with version 5.
abbrev pub IsVersionFault : Order → Reason → List ℕ → Type 0
IsVersionFault order Truncated body = length body < 2
IsVersionFault order (VersionNotFive version) body =
    (left : List ℕ) × (version < 2 ^ 16) × (version ≢ 5) × (body ≡ number_bytes order 2 version ++ left)
IsVersionFault order _ body = ⊥
