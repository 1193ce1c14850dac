-- The fields that header_length counts of an older unit, as they are read one after another (DWARF 2, 3 and 4, section 6.2.4), and the
-- header that they say. `OlderFieldsBytes` has the same fields.
use Rattle.std.specs.Prelude.{◌≡◌, ℕ, List, [], ◌∷◌, ◌++◌, length}
use Rattle.lnt_wire.specs.declared.fault.Reason.{Reason}
use Rattle.lnt_wire.specs.declared.format.Format.{Format}
use Rattle.lnt_wire.specs.declared.format.Order.{Order}
use Rattle.lnt_header.specs.FieldFaults.{FirstOf}
use Rattle.lnt_header.specs.HeaderRules.{IsAddressSize, header_of as header_with}
use Rattle.lnt_header.specs.Joins.{Both, Each}
use Rattle.lnt_header.specs.declared.header.Entry.{Entry}
use Rattle.lnt_header.specs.Parts.{HeaderParts}
use Rattle.lnt_header_bytes.specs.HeaderFaults.{SinglesBytes, IsSinglesFault, single_fields, LengthsBytes, IsLengthsFault}
use Rattle.lnt_header_bytes.specs.HeaderReading.{numbers_with}
use Rattle.lnt_older.specs.Lists.{IsListFault}
use Rattle.lnt_older.specs.OlderBytes.{has_max_ops, directory_pairs, file_pairs, ListBytes, ListedBytes, OlderFieldsBytes, OlderVersion}
use Rattle.lnt_older.specs.declared.header.OlderHeader.{OlderHeader}
use Rattle.lnt_header_bytes.specs.declared.numbers.Singles.{Singles}

-- ---- all fields

abbrev pub TwoLists : Format → Order → List Entry × List Entry → List ℕ → Type 0
TwoLists format order v bytes = Both (ListBytes format order directory_pairs) (λ _. ListBytes format order file_pairs) v bytes

abbrev pub AfterNumbers : Format → Order → Singles → List ℕ × (List Entry × List Entry) → List ℕ → Type 0
AfterNumbers format order n v bytes = Both (LengthsBytes n.opcode_base) (λ _. TwoLists format order) v bytes

-- the numbers, the standard opcode lengths, the directories and the files
abbrev pub FieldsOf : OlderVersion → Format → Order → Singles × (List ℕ × (List Entry × List Entry)) → List ℕ → Type 0
FieldsOf version format order v bytes = Both (SinglesBytes (has_max_ops version)) (AfterNumbers format order) v bytes

-- ---- the first field that isn't there

-- the directories, or the files after them
abbrev pub TwoListsFault : Format → Order → Reason → List ℕ → List ℕ → Type 0
TwoListsFault format order = FirstOf (ListBytes format order directory_pairs) (IsListFault format order directory_pairs)
    (λ _. IsListFault format order file_pairs)

-- the standard opcode lengths, or the lists after them
abbrev pub AfterNumbersFault : Format → Order → Singles → Reason → List ℕ → List ℕ → Type 0
AfterNumbersFault format order n = FirstOf (LengthsBytes n.opcode_base) (IsLengthsFault n.opcode_base) (λ _. TwoListsFault format order)

-- the numbers, or what comes after them
abbrev pub IsFieldsFault : OlderVersion → Format → Order → Reason → List ℕ → List ℕ → Type 0
IsFieldsFault version format order =
    FirstOf (SinglesBytes (has_max_ops version)) (IsSinglesFault (has_max_ops version)) (AfterNumbersFault format order)

-- ---- the header

-- the header of these numbers, standard opcode lengths, directories, files and last bytes
abbrev pub header_of : Format → Order → ℕ → Singles → List ℕ → List Entry → List Entry → List ℕ → HeaderParts
header_of format order address_size n lengths directories files extra =
    header_with format (numbers_with order address_size n lengths) directory_pairs directories file_pairs files extra

-- These directories and files lie in the lists of the header.
pub record ListsLie (format : Format) (order : Order) (o : OlderHeader) (directories files : List Entry) : Type 0 where
  pub directory_count : length directories ≡ o.directories.count
  pub file_count : length files ≡ o.files.count
  pub directories_lie : Each (ListedBytes format order directory_pairs) directories o.directories.bytes.now
  pub files_lie : Each (ListedBytes format order file_pairs) files o.files.bytes.now

-- the bytes that header_length counts, joined from the parts of the header: its numbers, the standard opcode lengths, the directories
-- and the files, each list with a zero byte after it, and what else stands before the program
abbrev pub header_spelling : OlderVersion → OlderHeader → List ℕ
header_spelling version o =
    single_fields (has_max_ops version) o.numbers ++ o.standard_lengths.now ++ (o.directories.bytes.now ++ 0 ∷ [])
    ++ (o.files.bytes.now ++ 0 ∷ [])
    ++ o.extra.now

-- The header was read from these bytes, which header_length counts: they spell it, whatever size addresses have, its directories and
-- files lie where it says, and the bytes are those of its parts.
pub record IsReadHeader (version : OlderVersion) (format : Format) (order : Order) (bytes : List ℕ) (o : OlderHeader) : Type 0 where
  pub directories : List Entry
  pub files : List Entry
  pub lie : ListsLie format order o directories files
  pub spelled : (address_size : ℕ) → IsAddressSize address_size
      → OlderFieldsBytes version (header_of format order address_size o.numbers o.standard_lengths.now directories files o.extra.now) bytes
  pub joined : bytes ≡ header_spelling version o
