-- The texts of notes.
use Rattle.std.specs.Prelude.{ℕ, List, [], ◌++◌, Option, None, Some, codes, decimal}
use Rattle.lnt_wire.specs.declared.format.Order.TheVariants as order
use Rattle.lnt_text.specs.declared.note.Argument.{Argument}
use Rattle.lnt_text.specs.declared.note.Argument.TheVariants as argument
use Rattle.lnt_text.specs.declared.note.Column.{Column}
use Rattle.lnt_text.specs.declared.note.Column.TheVariants as column
use Rattle.lnt_text.specs.declared.note.Look.{Look}
use Rattle.lnt_text.specs.declared.note.Look.TheVariants.{Elf, Pe, MachO, Gzip, Zstd, CompressedSection, Symbols, Text, InOrder}
use Rattle.lnt_text.specs.declared.note.Note.{Note}
use Rattle.lnt_text.specs.declared.note.Note.TheVariants.{Word, NotRaw, Older, AddressBytes, NoStrings, MaybeDead, NoneDead, Copies}
use Rattle.lnt_text.specs.declared.note.Note.TheVariants.{HoldsNothing, NoSums, TableHeader, TableRecord}
use Rattle.lnt_text.specs.declared.note.RecordRule.{RecordRule}
use Rattle.lnt_text.specs.declared.note.RecordRule.TheVariants.{Fields, Kind, Order}
use Rattle.lnt_text.specs.declared.note.StringSection.{StringSection}
use Rattle.lnt_text.specs.declared.note.StringSection.TheVariants.{Line, General}
use Rattle.lnt_wire.specs.FaultTexts.{hexadecimal}

-- the words that an argument takes
abbrev pub argument_text : Argument → List ℕ
argument_text argument.Address = codes "ADDRESS is 0x and 1 to 16 hexadecimal digits"
argument_text argument.Op = codes "N of --op is 1 to 20 decimal digits, and below 2^64"
argument_text argument.Dead = codes "ADDRESS of --dead is 0x and 1 to 16 hexadecimal digits"
argument_text argument.Format = codes "--format is 32 or 64"
argument_text argument.Order = codes "--order is little or big"
argument_text argument.AddressSize = codes "--address-size is 2, 4 or 8"
argument_text argument.Base = codes "ADDRESS of --base is 0x and 1 to 16 hexadecimal digits"
argument_text argument.AtLeast = codes "P of --at-least is 1 to 3 decimal digits, and at most 100"

-- what a file looks like, and what to do
abbrev pub look_text : Look → List ℕ
look_text Elf = codes "this looks like an ELF file; use linetab-object, which extracts the sections itself"
look_text Pe = codes "this looks like a PE file; use linetab-object, which extracts the sections itself"
look_text MachO = codes "this looks like a Mach-O file; use linetab-object, which extracts the sections itself"
look_text Gzip = codes "this looks like a file that gzip compressed; decompress it first"
look_text Zstd = codes "this looks like a file that zstd compressed; decompress it first"
look_text CompressedSection =
    codes "this looks like a compressed section; objcopy --decompress-debug-sections, with --dump-section, decompresses it"
look_text Symbols = codes "this looks like a symbol file; linetab-object check compares one with a program"
look_text Text = codes "this looks like text; a section is the raw bytes of .debug_line"
look_text (InOrder order.Big) = codes "its length fits where the section is big-endian; try --big"
look_text (InOrder order.Little) = codes "its length fits where the section is little-endian; leave out --big"

-- which option is missing
abbrev pub strings_text : StringSection → List ℕ
strings_text Line = codes "its text lies in .debug_line_str, which wasn't given; --line-str FILE names that section's bytes"
strings_text General = codes "its text lies in .debug_str, which wasn't given; --str FILE names that section's bytes"

-- how many they are, if that is known
abbrev pub count_text : Option ℕ → List ℕ
count_text (Some count) = codes " (" ++ (decimal count ++ codes " of them)")
count_text None = []

-- the line of the text where a record begins, if that is known
abbrev pub line_text : Option ℕ → List ℕ
line_text (Some line) = codes "line " ++ (decimal line ++ codes " of the table: ")
line_text None = []

-- what a column is called
abbrev pub column_name : Column → List ℕ
column_name column.Low = codes "low"
column_name column.LowOp = codes "low_op"
column_name column.High = codes "high"
column_name column.HighOp = codes "high_op"
column_name column.Unit = codes "unit"
column_name column.File = codes "file"
column_name column.Line = codes "line"
column_name column.Column = codes "column"
column_name column.IsStmt = codes "is_stmt"
column_name column.Isa = codes "isa"
column_name column.Discriminator = codes "discriminator"

-- what it holds
abbrev pub column_kind : Column → List ℕ
column_kind column.Low = codes "0x and 1 to 16 hexadecimal digits"
column_kind column.High = codes "0x and 1 to 16 hexadecimal digits"
column_kind column.IsStmt = codes "0 or 1"
column_kind _ = codes "1 to 20 decimal digits, and below 2^64"

-- which rule a record breaks
abbrev pub rule_text : RecordRule → List ℕ
rule_text Fields = codes "each record has as many fields as the header has names"
rule_text (Kind which) = column_name which ++ (codes " is " ++ column_kind which)
rule_text Order = codes "each span ends above its low, which isn't below the high of the span before"

-- the headers of the versions of a table that contain units and file numbers
abbrev pub numbered_headers : List ℕ
numbered_headers = codes "low,low_op,high,high_op,unit,file,line,column,is_stmt[,isa,discriminator]"

-- a note
abbrev pub note_text : Note → List ℕ
note_text (Word argument) = argument_text argument
note_text (NotRaw look) = look_text look
note_text Older =
    codes "linetab upgrade SECTION --address-size N writes units of versions 2 to 4 anew in version 5, which the other words read; N is how many bytes an address has: 8 in a 64-bit program, 4 in a 32-bit one"
note_text (AddressBytes count) =
    codes "the operation there sets an address of " ++ (decimal count ++
    (codes " bytes; if linetab upgrade wrote the section, run it with --address-size " ++ decimal count))
note_text (NoStrings section) = strings_text section
note_text (MaybeDead count address) =
    codes "sequences begin at " ++ (hexadecimal address ++
    (codes ", where linkers leave discarded code" ++ (count_text count ++
    (codes "; --dead " ++ (hexadecimal address ++ codes " leaves them out")))))
note_text (NoneDead address) = codes "no sequence begins at " ++ (hexadecimal address ++ codes ", so --dead leaves nothing out")
note_text Copies =
    codes "the two hold the same positions, as where a linker kept one of several copies of some code; --skip-copies leaves out the others"
note_text HoldsNothing = codes "no sequence holds a position, so the section's table is empty; a relocatable object has to be linked first"
note_text NoSums = codes "the section lists no MD5 sum, so nothing was compared"
note_text TableHeader =
    codes "the first line has to be " ++ (numbered_headers ++ codes ", or low,high,path,line[,column]")
note_text (TableRecord line rule) = line_text line ++ rule_text rule

-- the line of a note, on standard error
abbrev pub note_line : Note → List ℕ
note_line note = codes "linetab: note: " ++ (note_text note ++ codes "\n")
