-- Frames: the units of a section, delimited by their initial lengths, with their versions checked (DWARF 5, sections 6.2.4
-- and 7.4).
use Rattle.std.specs.Prelude.{◌≡◌, ℕ, ◌^◌, ◌<◌, List, ◌++◌, ◌+◌, [], ◌∷◌, length}
use Rattle.lnt_wire.specs.declared.format.Format.TheVariants.{D32, D64}
use Rattle.lnt_wire.specs.Numbers.{number_bytes, Format}
pub use Rattle.lnt_wire.specs.declared.format.Order.{Order}
pub use Rattle.lnt_wire.specs.declared.frame.Frame.{Frame}
pub use Rattle.lnt_wire.specs.declared.prefix.Prefix.{Prefix}
use Rattle.lnt_wire.specs.Reading.{At, Reads}

-- ---- the initial length of a unit (DWARF 5, section 7.4)

-- The bytes of an initial length: 4 in the 32-bit format; in the 64-bit format 0xffffffff, and then 8.
abbrev pub initial_length : Format → Order → ℕ → List ℕ
initial_length D32 order n = number_bytes order 4 n
initial_length D64 order n = number_bytes order 4 0xffffffff ++ number_bytes order 8 n

-- The lengths that a format can encode. The 32-bit numbers from 0xfffffff0 on are reserved.
abbrev pub LengthFits : Format → ℕ → Type 0
LengthFits D32 n = n < 0xfffffff0
LengthFits D64 n = n < 2 ^ 64

-- The bytes encode the format and the length.
pub record InitialBytes (order : Order) (initial : Format × ℕ) (bytes : List ℕ) : Type 0 where
  pub fits : LengthFits initial.0 initial.1
  pub spelled : bytes ≡ initial_length initial.0 order initial.1

-- an initial length, and after it the body that it counts
abbrev pub frame_bytes : Order → Format → List ℕ → List ℕ
frame_bytes order format body = initial_length format order (length body) ++ body

-- ---- units of any version

-- The bytes of a unit with this format, this version, and these bytes after the version.
pub record PrefixBytes (order : Order) (unit : Format × ℕ × List ℕ) (bytes : List ℕ) : Type 0 where
  pub small : unit.1 < 2 ^ 16
  pub fits : LengthFits unit.0 (length (number_bytes order 2 unit.1 ++ unit.2))
  pub joined : bytes ≡ frame_bytes order unit.0 (number_bytes order 2 unit.1 ++ unit.2)

-- The read gave the prefix of a unit, and moved past the unit, which ends with the body.
pub record ReadsPrefix (prefix : Prefix) (old new : At) : Type 0 where
  pub read : Reads (PrefixBytes old.order) (prefix.format, prefix.version, prefix.past.now) old new
  pub body_is : prefix.body.now ≡ number_bytes old.order 2 prefix.version ++ prefix.past.now
  pub end_is : new.place ≡ prefix.place + length prefix.body.now

-- ---- frames

-- The 2 bytes of version 5.
abbrev pub version_five : Order → List ℕ
version_five order = number_bytes order 2 5

-- The body of the unit begins with version 5.
pub record BeginsWithFive (order : Order) (body : List ℕ) : Type 0 where
  pub past : List ℕ
  pub joined : body ≡ version_five order ++ past

-- The bytes of a frame with this format and this body: the initial length, and after it the body that it counts, which begins with
-- version 5.
pub record FrameBytes (order : Order) (frame : Format × List ℕ) (bytes : List ℕ) : Type 0 where
  pub fits : LengthFits frame.0 (length frame.1)
  pub version : BeginsWithFive order frame.1
  pub joined : bytes ≡ frame_bytes order frame.0 frame.1

-- The bytes are those of the frame, and its length counts its body.
pub record IsFrame (order : Order) (frame : Frame) (bytes : List ℕ) : Type 0 where
  pub length_is : frame.length ≡ length frame.body.now
  pub spelled : FrameBytes order (frame.format, frame.body.now) bytes

-- The frame is at its offset in a section, in which it ends below 2 ^ 64.
pub record IsPlacedFrame (order : Order) (frame : Frame) : Type 0 where
  pub is : IsFrame order frame (frame_bytes order frame.format frame.body.now)
  pub room : frame.offset + length (frame_bytes order frame.format frame.body.now) < 2 ^ 64

-- The bytes of frames one after another. The first frame is at the offset, and each other one begins where the one before
-- it ends.
abbrev pub FramesFrom : Order → ℕ → List Frame → List ℕ → Type 0
FramesFrom order offset [] bytes = bytes ≡ []
FramesFrom order offset (frame ∷ frames) bytes =
    (prefix : List ℕ) × (back : List ℕ) × (bytes ≡ prefix ++ back)
    × (frame.offset ≡ offset) × IsFrame order frame prefix × FramesFrom order (offset + length prefix) frames back
