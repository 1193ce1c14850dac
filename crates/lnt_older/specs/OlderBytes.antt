-- The bytes of a unit of version 2, 3 or 4, around its program (DWARF 2, 3 and 4, section 6.2.4). Such a unit says no address size,
-- which its caller knows. Its directories and files are listed from number 1 on; its compilation directory, number 0, isn't there.
use Rattle.std.specs.Prelude.{◌≡◌, ℕ, ◌<◌, List, [], ◌∷◌, ◌++◌, length, Bool, true, false}
use Rattle.std.specs.Int.{w8, cast_unsigned}
use Rattle.lnt_wire.specs.Bytes.{Exactly, ◌⨾◌}
use Rattle.lnt_wire.specs.FrameBytes.{frame_bytes, LengthFits}
use Rattle.lnt_wire.specs.Numbers.{number_bytes, offset_size}
use Rattle.lnt_wire.specs.declared.form.Form.TheVariants as forms
use Rattle.lnt_wire.specs.declared.format.Format.{Format}
use Rattle.lnt_wire.specs.declared.format.Order.{Order}
use Rattle.lnt_header.specs.HeaderRules.{AreHeaderNumbers, single_bytes}
use Rattle.lnt_header.specs.Joins.{Each}
use Rattle.lnt_header.specs.declared.header.Entry.{Entry}
use Rattle.lnt_header.specs.Parts.{HeaderParts}
use Rattle.lnt_header.specs.declared.numbers.NumberParts.{NumberParts}
use Rattle.lnt_header.specs.declared.header.Pair.{Pair}
use Rattle.lnt_header_bytes.specs.HeaderFaults.{SaysMaxOps}
use Rattle.lnt_header_bytes.specs.TableBytes.{EntryBytes}
pub use Rattle.lnt_older.specs.declared.version.OlderVersion.{OlderVersion}
use Rattle.lnt_older.specs.declared.version.OlderVersion.TheVariants.{Two, Three, Four}

abbrev pub version_number : OlderVersion → ℕ
version_number Two = 2
version_number Three = 3
version_number Four = 4

-- ---- lists

-- what a directory consists of: a path
abbrev pub directory_pairs : List Pair
directory_pairs = record { content = 1; form = forms.Text } ∷ []

-- what a file consists of: a path, the number of its directory, a time and a size
abbrev pub file_pairs : List Pair
file_pairs =
    record { content = 1; form = forms.Text } ∷ record { content = 2; form = forms.Udata } ∷ record { content = 3; form = forms.Udata }
    ∷ record { content = 4; form = forms.Udata } ∷ []

-- The first byte isn't zero, as it is where a list ends.
pub record BeginsEntry (bytes : List ℕ) : Type 0 where
  pub first : ℕ
  pub more : List ℕ
  pub some : 0 < first
  pub joined : bytes ≡ first ∷ more

-- an entry whose path isn't empty
pub record ListedBytes (format : Format) (order : Order) (pairs : List Pair) (entry : Entry) (bytes : List ℕ) : Type 0 where
  pub some : BeginsEntry bytes
  pub spelled : EntryBytes format order pairs entry bytes

-- entries one after another, and a zero byte
abbrev pub ListBytes : Format → Order → List Pair → List Entry → List ℕ → Type 0
ListBytes format order pairs entries bytes = (Each (ListedBytes format order pairs) entries ⨾ Exactly (0 ∷ [])) bytes

-- ---- units

-- from version 4 on a header has maximum_operations_per_instruction
abbrev pub has_max_ops : OlderVersion → Bool
has_max_ops Four = true
has_max_ops _ = false

-- the fields of one byte
abbrev pub older_bytes : OlderVersion → NumberParts → List ℕ
older_bytes Four n = single_bytes n
older_bytes _ n =
    n.minimum_instruction_length ∷ n.default_is_stmt ∷ cast_unsigned w8 n.line_base ∷ n.line_range ∷ n.opcode_base ∷ n.standard_lengths

-- where it has none, that number is 1
abbrev pub SaysOperations : OlderVersion → ℕ → Type 0
SaysOperations version = SaysMaxOps (has_max_ops version)

-- The bytes that header_length counts: fields of one byte, the two lists, and what else stands before the program.
pub record OlderFieldsBytes (version : OlderVersion) (h : HeaderParts) (bytes : List ℕ) : Type 0 where
  pub directories : List ℕ
  pub files : List ℕ
  pub numbers : AreHeaderNumbers h.numbers
  pub operations : SaysOperations version h.numbers.max_ops
  pub directory_format : h.directory_format ≡ directory_pairs
  pub file_format : h.file_format ≡ file_pairs
  pub directory_list : ListBytes h.format h.numbers.order directory_pairs h.directories directories
  pub file_list : ListBytes h.format h.numbers.order file_pairs h.files files
  pub joined : bytes ≡ older_bytes version h.numbers ++ directories ++ files ++ h.extra

-- what unit_length counts of an older unit: the version, the length of the fields, the fields, and the program
abbrev pub body_bytes : Format → Order → OlderVersion → List ℕ → List ℕ → List ℕ
body_bytes format order version fields program =
    number_bytes order 2 (version_number version) ++ number_bytes order (offset_size format) (length fields) ++ fields ++ program

-- the same, of a unit with this header
abbrev pub older_body : OlderVersion → HeaderParts → List ℕ → List ℕ → List ℕ
older_body version h fields program = body_bytes h.format h.numbers.order version fields program

-- The bytes of an older unit with this header and this program.
pub record OlderBytes (h : HeaderParts) (program bytes : List ℕ) : Type 0 where
  pub version : OlderVersion
  pub fields : List ℕ
  pub counted : OlderFieldsBytes version h fields
  pub fits : LengthFits h.format (length (older_body version h fields program))
  pub joined : bytes ≡ frame_bytes h.numbers.order h.format (older_body version h fields program)

-- an older unit in this byte order, whose addresses have this many bytes
pub record OlderBytesIn (order : Order) (address_size : ℕ) (unit : HeaderParts × List ℕ) (bytes : List ℕ) : Type 0 where
  pub order_is : unit.0.numbers.order ≡ order
  pub size_is : unit.0.numbers.address_size ≡ address_size
  pub spelled : OlderBytes unit.0 unit.1 bytes
