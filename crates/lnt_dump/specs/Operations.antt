-- The lines of operations (DWARF 5, sections 6.2.5 and 7.22).
use Rattle.std.specs.Prelude.{ℕ, List, [], ◌∷◌, ◌++◌, codes, decimal, flat_map, ◌||◌, Bool, cond, if◌then◌else◌}
use Rattle.std.specs.Fmt.{signed_decimal}
use Rattle.hex.specs.Hex.{encode_lower}
use Rattle.lnt_wire.specs.FaultTexts.{hexadecimal}
use Rattle.lnt_header.specs.declared.op.Op.{Op}
use Rattle.lnt_header.specs.declared.op.Op.TheVariants.{Special, Copy, AdvancePc, AdvanceLine, SetFile, SetColumn, NegateStmt}
use Rattle.lnt_header.specs.declared.op.Op.TheVariants.{SetBasicBlock, ConstAddPc, FixedAdvancePc, SetPrologueEnd, SetEpilogueBegin, SetIsa}
use Rattle.lnt_header.specs.declared.op.Op.TheVariants.{UnknownStandard, EndSequence, SetAddress, SetDiscriminator, UnknownExtended}
use Rattle.lnt_machine.specs.declared.row.Row.{Row}

-- a number after a space
abbrev pub operand_text : ℕ → List ℕ
operand_text n = codes " " ++ decimal n

-- bytes by their hexadecimal digits, after a space if there are any
abbrev pub bytes_text : List ℕ → List ℕ
bytes_text [] = []
bytes_text (byte ∷ bytes) = codes " " ++ encode_lower (byte ∷ bytes)

-- the name of an operation, and its operands
abbrev pub op_text : Op → List ℕ
op_text (Special opcode) = codes "special " ++ decimal opcode
op_text Copy = codes "copy"
op_text (AdvancePc n) = codes "advance_pc " ++ decimal n
op_text (AdvanceLine z) = codes "advance_line " ++ signed_decimal z
op_text (SetFile n) = codes "set_file " ++ decimal n
op_text (SetColumn n) = codes "set_column " ++ decimal n
op_text NegateStmt = codes "negate_stmt"
op_text SetBasicBlock = codes "set_basic_block"
op_text ConstAddPc = codes "const_add_pc"
op_text (FixedAdvancePc n) = codes "fixed_advance_pc " ++ decimal n
op_text SetPrologueEnd = codes "set_prologue_end"
op_text SetEpilogueBegin = codes "set_epilogue_begin"
op_text (SetIsa n) = codes "set_isa " ++ decimal n
op_text (UnknownStandard opcode operands) = (codes "unknown_standard " ++ decimal opcode) ++ flat_map operand_text operands
op_text EndSequence = codes "end_sequence"
op_text (SetAddress address) = codes "set_address " ++ hexadecimal address
op_text (SetDiscriminator n) = codes "set_discriminator " ++ decimal n
op_text (UnknownExtended code bytes) = (codes "unknown_extended " ++ decimal code) ++ bytes_text bytes

-- an operation, with its number
abbrev pub op_line : ℕ → Op → List ℕ
op_line index op = ((codes "op " ++ decimal index) ++ codes " ") ++ (op_text op ++ codes "\n")

-- ---- the line that `dump --rows` prints for a row (DWARF 5, section 6.2.2)

-- a flag by its letter, if it is set
abbrev pub flag_text : Bool → List ℕ → List ℕ
flag_text is_set letter = cond is_set letter []

-- the letters of the flags that are set, or a dash if none is
abbrev pub flags_text : Row → List ℕ
flags_text row =
    cond (((row.basic_block || row.end_sequence) || row.prologue_end) || row.epilogue_begin)
    (flag_text row.basic_block (codes "b") ++ (flag_text row.end_sequence (codes "e")
    ++ (flag_text row.prologue_end (codes "p") ++ flag_text row.epilogue_begin (codes "g"))))
    (codes "-")

-- Its number, counted in its unit, and its registers: decimal numbers and an address in hexadecimal digits, whether it is a
-- statement, and its flags.
abbrev pub row_line : ℕ → Row → List ℕ
row_line index row =
    codes "row " ++ (decimal index ++ (codes " " ++ (hexadecimal row.address ++ (codes " " ++ (decimal row.op_index ++ (codes " "
    ++ (decimal row.file ++ (codes " " ++ (decimal row.line ++ (codes " " ++ (decimal row.column ++ (codes " "
    ++ ((if row.is_stmt then codes "1" else codes "0") ++ (codes " " ++ (flags_text row ++ (codes " " ++ (decimal row.isa ++ (codes " "
    ++ (decimal row.discriminator ++ codes "\n")))))))))))))))))))
