-- Why a header isn't written in its format: an offset is too large for it, or the unit is too long (DWARF 5, sections 7.4 and 7.5.5).
use Rattle.std.specs.Prelude.{◌≡◌, ◌⊎◌, ℕ, List, length, Contains}
use Rattle.lnt_wire.specs.declared.form.FormValue.{FormValue}
use Rattle.lnt_wire.specs.declared.format.Format.{Format}
use Rattle.lnt_wire.specs.declared.put.EncodeFault.{EncodeFault}
use Rattle.lnt_wire.specs.declared.put.EncodeFault.TheVariants.{TooLarge}
use Rattle.lnt_wire.specs.Bytes.{IsShortest}
use Rattle.lnt_wire.specs.FormBytes.{IsTooLarge}
use Rattle.lnt_wire.specs.FrameBytes.{LengthFits}
use Rattle.lnt_header.specs.declared.header.Entry.{Entry}
use Rattle.lnt_header.specs.Parts.{HeaderParts}
use Rattle.lnt_header_bytes.specs.HeaderBytes.{HeaderFieldsBytes, unit_body}

-- one of the values is an offset that the format can't say
abbrev pub HasLargeValue : Format → List FormValue → Type 0
HasLargeValue format values = (value : FormValue) × Contains values value × IsTooLarge format value

-- one of the entries has one
abbrev pub HasLargeEntry : Format → List Entry → Type 0
HasLargeEntry format entries = (entry : Entry) × Contains entries entry × HasLargeValue format entry.values

-- One of the directories or files has an offset that the header's format can't say: one of 2^32 or more in the 32-bit format.
abbrev pub HasLargeOffset : HeaderParts → Type 0
HasLargeOffset h = HasLargeEntry h.format h.directories ⊎ HasLargeEntry h.format h.files

-- Even with the shortest fields, the unit's length is more than the format can say.
pub record IsTooLong (h : HeaderParts) (program : List ℕ) : Type 0 where
  pub fields : List ℕ
  pub shortest : IsShortest HeaderFieldsBytes h fields
  pub too_long : LengthFits h.format (length (unit_body h fields program)) → ⊥

-- the fault is TooLarge only where this is so
pub record IfTooLarge (IsSo : Type 0) (fault : EncodeFault) : Type 0 where
  pub is_so : fault ≡ TooLarge → IsSo
