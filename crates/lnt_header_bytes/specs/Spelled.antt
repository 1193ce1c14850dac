-- Which headers have bytes, and in which format (DWARF 5, sections 6.2.4 and 7.4).
use Rattle.std.specs.Prelude.{ℕ, ◌^◌, ◌<◌, List, length, ◌≡◌}
use Rattle.std.specs.List.{AllByRecursion}
use Rattle.lnt_wire.specs.declared.format.Format.{Format}
use Rattle.lnt_wire.specs.Bytes.{IsShortest}
use Rattle.lnt_wire.specs.FormBytes.{IsTooLarge}
use Rattle.lnt_wire.specs.FrameBytes.{LengthFits}
use Rattle.lnt_wire.specs.Spelled.{FitsForm, HasShortest}
use Rattle.lnt_header.specs.declared.header.Entry.{Entry}
use Rattle.lnt_header.specs.Parts.{HeaderParts}
use Rattle.lnt_header.specs.declared.header.Pair.{Pair}
use Rattle.lnt_header_bytes.specs.HeaderBytes.{HeaderFieldsBytes, unit_body, HeaderBytes}
use Rattle.lnt_wire.specs.declared.format.Format.TheVariants.{D64}
use Rattle.lnt_header.specs.HeaderRules.{IsHeader}

-- The numbers of a table are ones that its fields can say in the 64-bit format. The fields of `Pair` and `FormValue` hold no others.
pub record FitsTable (pairs : List Pair) (entries : List Entry) : Type 0 where
  pub contents : AllByRecursion (λ (pair : Pair). pair.content < 2 ^ 64) pairs
  pub count : length entries < 2 ^ 64
  pub values : AllByRecursion (λ (entry : Entry). AllByRecursion FitsForm entry.values) entries

-- the numbers of both tables fit their fields
pub record FitsFields (h : HeaderParts) : Type 0 where
  pub directories : FitsTable h.directory_format h.directories
  pub files : FitsTable h.file_format h.files

-- The format can say each offset among the values. The 64-bit format can say all.
abbrev pub OffsetsFit : Format → List Entry → Type 0
OffsetsFit format entries = AllByRecursion (λ (entry : Entry). AllByRecursion (λ value. IsTooLarge format value → ⊥) entry.values) entries

-- the format can say each offset of both tables
pub record HasSmallOffsets (h : HeaderParts) : Type 0 where
  pub directories : OffsetsFit h.format h.directories
  pub files : OffsetsFit h.format h.files

-- The unit's length, with the shortest fields and this program, is one that the format can say.
abbrev pub LengthsFit : HeaderParts → List ℕ → Type 0
LengthsFit h program = (fields : List ℕ) → IsShortest HeaderFieldsBytes h fields → LengthFits h.format (length (unit_body h fields program))

-- ---- what is allowed has an encoding, and what has one is allowed

-- A header that `Header::new` allows has an encoding, with a program, exactly if the format can represent its offsets and its
-- length. In the 64-bit format no offset is too large.
pub record AllowedHeaderIsSpelled : Type 0 where
  pub fields : (h : HeaderParts) → IsHeader h → FitsFields h → HasSmallOffsets h → HasShortest HeaderFieldsBytes h
  pub unit : (h : HeaderParts) (program : List ℕ) → IsHeader h → FitsFields h → HasSmallOffsets h → LengthsFit h program
      → (bytes : List ℕ) × HeaderBytes h program bytes
  pub allowed : (h : HeaderParts) (program bytes : List ℕ) → HeaderBytes h program bytes
      → IsHeader h × FitsFields h × HasSmallOffsets h × LengthsFit h program
  pub wide : (h : HeaderParts) → h.format ≡ D64 → HasSmallOffsets h
