-- Which values a header has, whatever bytes encode it (DWARF 5, section 6.2.4).
use Rattle.std.specs.Prelude.{◌≡◌, ℕ, ◌+◌, ◌<◌, ◌⊎◌, List, [], ◌∷◌, ◌++◌, length, map, take, FitsSigned}
use Rattle.std.specs.Int.{w8, cast_unsigned}
use Rattle.std.specs.List.{AllByRecursion}
use Rattle.lnt_wire.specs.FormBytes.{form_of, HasSpelling}
use Rattle.lnt_header.specs.declared.header.Entry.{Entry}
use Rattle.lnt_header.specs.declared.header.Pair.{Pair}
use Rattle.lnt_header.specs.declared.numbers.NumberParts.{NumberParts}
pub use Rattle.lnt_header.specs.Parts.{HeaderParts, header_of}
use Rattle.lnt_header.specs.OpRules.{known_lengths, last_known, Admits}
use Rattle.lnt_header.specs.declared.unit_parts.UnitParts.{UnitParts}

-- An address has 2, 4 or 8 bytes.
abbrev pub IsAddressSize : ℕ → Type 0
IsAddressSize size = (size ≡ 2) ⊎ (size ≡ 4) ⊎ (size ≡ 8)

-- Lengths of the opcodes from 1 on. Those of the known opcodes are as the standard states.
abbrev pub AreStandardLengths : List ℕ → Type 0
AreStandardLengths lengths = take last_known lengths ≡ take (length lengths) known_lengths

-- the fields of one byte from minimum_instruction_length to opcode_base
abbrev pub six_bytes : NumberParts → List ℕ
six_bytes h =
    h.minimum_instruction_length ∷ h.max_ops ∷ h.default_is_stmt ∷ cast_unsigned w8 h.line_base ∷ h.line_range ∷ h.opcode_base ∷ []

-- the same, and the standard opcode lengths
abbrev pub single_bytes : NumberParts → List ℕ
single_bytes h = six_bytes h ++ h.standard_lengths

-- The numbers of a header that can be read.
pub record AreHeaderNumbers (h : NumberParts) : Type 0 where
  pub address_size : IsAddressSize h.address_size
  pub line_base : FitsSigned w8 h.line_base
  pub bytes : AllByRecursion (λ byte. byte < 256) (single_bytes h)
  pub max_ops : 0 < h.max_ops
  pub line_range : 0 < h.line_range
  pub opcode_base : h.opcode_base ≡ length h.standard_lengths + 1
  pub lengths : AreStandardLengths h.standard_lengths

-- An entry with one value for each pair, of the pair's form. Each value has an encoding: a text has no zero byte, and the size of
-- a block fits its length.
pub record IsEntryOf (pairs : List Pair) (entry : Entry) : Type 0 where
  pub forms : map form_of entry.values ≡ map (λ pair. pair.form) pairs
  pub spelled : AllByRecursion HasSpelling entry.values

-- A format of at most 255 pairs, and entries of that format. Without pairs there are no entries.
pub record IsEntryTable (pairs : List Pair) (entries : List Entry) : Type 0 where
  pub few_pairs : length pairs < 256
  pub none_without_pairs : pairs ≡ [] → entries ≡ []
  pub of_format : AllByRecursion (IsEntryOf pairs) entries

-- The parts of a header: its numbers, and a format and its entries in each of the two tables.
pub record IsHeader (h : HeaderParts) : Type 0 where
  pub numbers : AreHeaderNumbers h.numbers
  pub directories : IsEntryTable h.directory_format h.directories
  pub files : IsEntryTable h.file_format h.files

-- ---- which units there are, whatever bytes encode them

pub record IsUnit (unit : UnitParts) : Type 0 where
  pub header : IsHeader unit.header
  pub ops : AllByRecursion (Admits unit.header.numbers) unit.ops
