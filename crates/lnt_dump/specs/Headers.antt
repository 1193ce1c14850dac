-- The lines of a unit's frame and of its header (DWARF 5, section 6.2.4).
use Rattle.std.specs.Prelude.{ℕ, List, ◌++◌, codes, decimal, flat_map, zip}
use Rattle.std.specs.Fmt.{signed_decimal}
use Rattle.hex.specs.Hex.{encode_lower}
use Rattle.lnt_wire.specs.declared.form.FormValue.{FormValue}
use Rattle.lnt_wire.specs.declared.form.FormValue.TheVariants.{Text, LineStrp, Strp, Udata, Data1, Data2, Data4, Data8, Data16}
use Rattle.lnt_wire.specs.declared.form.FormValue.TheVariants.{Block, Block1, Block2, Block4}
use Rattle.lnt_wire.specs.declared.frame.Frame.{Frame}
use Rattle.lnt_wire.specs.FaultTexts.{hexadecimal}
use Rattle.lnt_header.specs.declared.header.Entry.{Entry}
use Rattle.lnt_header.specs.Parts.{HeaderParts}
use Rattle.lnt_header.specs.declared.numbers.NumberParts.{NumberParts}
use Rattle.lnt_header.specs.declared.header.Pair.{Pair}
use Rattle.lnt_text.specs.Texts.{quoted_text}
use Rattle.lnt_dump.specs.Units.{numbered, unit_line}

-- a block by the hexadecimal digits of its bytes
abbrev pub block_text : List ℕ → List ℕ
block_text block = codes "block:" ++ encode_lower block

-- a value in its form
abbrev pub value_text : FormValue → List ℕ
value_text (Text text) = quoted_text text
value_text (LineStrp offset) = codes "line_strp:" ++ hexadecimal offset
value_text (Strp offset) = codes "strp:" ++ hexadecimal offset
value_text (Udata n) = decimal n
value_text (Data1 n) = decimal n
value_text (Data2 n) = decimal n
value_text (Data4 n) = decimal n
value_text (Data8 n) = decimal n
value_text (Data16 bytes) = encode_lower bytes
value_text (Block block) = block_text block
value_text (Block1 block) = block_text block
value_text (Block2 block) = block_text block
value_text (Block4 block) = block_text block

-- a component of an entry: its content type and its value
abbrev pub component_text : Pair × FormValue → List ℕ
component_text component = codes " " ++ (decimal component.0.content ++ (codes "=" ++ value_text component.1))

-- an entry of a table: what it is, its index, and its components, which are by the pairs of the table's format
abbrev pub entry_line : List ℕ → List Pair → ℕ → Entry → List ℕ
entry_line name pairs index entry =
    (name ++ (codes " " ++ decimal index)) ++ (flat_map component_text (zip pairs entry.values) ++ codes "\n")

-- the numbers of a header, in the order in which it has them; line_base is signed
abbrev pub numbers_line : NumberParts → List ℕ
numbers_line numbers =
    codes "header " ++ (decimal numbers.address_size ++ (codes " "
    ++ (decimal numbers.minimum_instruction_length ++ (codes " " ++ (decimal numbers.max_ops ++ (codes " "
    ++ (decimal numbers.default_is_stmt ++ (codes " " ++ (signed_decimal numbers.line_base ++ (codes " "
    ++ (decimal numbers.line_range ++ (codes " " ++ (decimal numbers.opcode_base ++ codes "\n")))))))))))))

-- the lines of a unit's frame, of its numbers, of its directories and of its files
abbrev pub header_lines : Frame → HeaderParts → List ℕ
header_lines frame header =
    (codes "unit " ++ unit_line frame) ++ (numbers_line header.numbers
    ++ (numbered (entry_line (codes "dir") header.directory_format) 0 header.directories
    ++ numbered (entry_line (codes "file") header.file_format) 0 header.files))
