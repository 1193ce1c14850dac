-- No text of a note has a line feed.
use Rattle.std.proofs.Common.{ℕ, Option, None, Some, ◌++◌, codes, decimal, refl}
use Rattle.lnt_wire.specs.FaultTexts.{hexadecimal}
use Rattle.lnt_wire.specs.declared.format.Order.TheVariants as order
use Rattle.lnt_text.specs.declared.note.Argument.{Argument}
use Rattle.lnt_text.specs.declared.note.Argument.TheVariants as argument
use Rattle.lnt_text.specs.declared.note.Column.{Column}
use Rattle.lnt_text.specs.declared.note.Column.TheVariants as column
use Rattle.lnt_text.specs.declared.note.Look.{Look}
use Rattle.lnt_text.specs.declared.note.Look.TheVariants.{Elf, Pe, MachO, Gzip, Zstd, CompressedSection, Symbols, Text, InOrder}
use Rattle.lnt_text.specs.declared.note.Note.{Note}
use Rattle.lnt_text.specs.declared.note.Note.TheVariants.{Word, NotRaw, Older, AddressBytes, NoStrings, MaybeDead, NoneDead, Copies}
use Rattle.lnt_text.specs.declared.note.Note.TheVariants.{HoldsNothing, NoSums, TableHeader, TableRecord}
use Rattle.lnt_text.specs.declared.note.RecordRule.{RecordRule}
use Rattle.lnt_text.specs.declared.note.RecordRule.TheVariants.{Fields, Kind, Order}
use Rattle.lnt_text.specs.declared.note.StringSection.{StringSection}
use Rattle.lnt_text.specs.declared.note.StringSection.TheVariants.{Line, General}
use Rattle.lnt_text.specs.Notes.{argument_text, column_kind, column_name, count_text, line_text, look_text, note_text, rule_text}
use Rattle.lnt_text.specs.Notes.{strings_text}
use Rattle.lnt_notes.specs.Notes.{IsOneLine}
use Rattle.lnt_notes.proofs.LineLemmas.{both_one_line, number_one_line}

argument_one_line : (argument : Argument) → IsOneLine (argument_text argument)
argument_one_line argument.Address = refl
argument_one_line argument.Op = refl
argument_one_line argument.Dead = refl
argument_one_line argument.Format = refl
argument_one_line argument.Order = refl
argument_one_line argument.AddressSize = refl
argument_one_line argument.Base = refl
argument_one_line argument.AtLeast = refl

look_one_line : (look : Look) → IsOneLine (look_text look)
look_one_line Elf = refl
look_one_line Pe = refl
look_one_line MachO = refl
look_one_line Gzip = refl
look_one_line Zstd = refl
look_one_line CompressedSection = refl
look_one_line Symbols = refl
look_one_line Text = refl
look_one_line (InOrder order.Big) = refl
look_one_line (InOrder order.Little) = refl

strings_one_line : (section : StringSection) → IsOneLine (strings_text section)
strings_one_line Line = refl
strings_one_line General = refl

address_one_line : (n : ℕ) → IsOneLine (hexadecimal n)
address_one_line n = number_one_line 16 n

count_one_line : (count : Option ℕ) → IsOneLine (count_text count)
count_one_line None = refl
count_one_line (Some count) = both_one_line (decimal count) (codes " of them)") (number_one_line 10 count) refl

place_one_line : (line : Option ℕ) → IsOneLine (line_text line)
place_one_line None = refl
place_one_line (Some line) = both_one_line (decimal line) (codes " of the table: ") (number_one_line 10 line) refl

name_one_line : (which : Column) → IsOneLine (column_name which)
name_one_line column.Low = refl
name_one_line column.LowOp = refl
name_one_line column.High = refl
name_one_line column.HighOp = refl
name_one_line column.Unit = refl
name_one_line column.File = refl
name_one_line column.Line = refl
name_one_line column.Column = refl
name_one_line column.IsStmt = refl
name_one_line column.Isa = refl
name_one_line column.Discriminator = refl

kind_one_line : (which : Column) → IsOneLine (column_kind which)
kind_one_line column.Low = refl
kind_one_line column.LowOp = refl
kind_one_line column.High = refl
kind_one_line column.HighOp = refl
kind_one_line column.Unit = refl
kind_one_line column.File = refl
kind_one_line column.Line = refl
kind_one_line column.Column = refl
kind_one_line column.IsStmt = refl
kind_one_line column.Isa = refl
kind_one_line column.Discriminator = refl

rule_one_line : (rule : RecordRule) → IsOneLine (rule_text rule)
rule_one_line Fields = refl
rule_one_line (Kind which) =
    both_one_line (column_name which) (codes " is " ++ column_kind which) (name_one_line which) (kind_one_line which)
rule_one_line Order = refl

pub note_one_line : (note : Note) → IsOneLine (note_text note)
note_one_line (Word argument) = argument_one_line argument
note_one_line (NotRaw look) = look_one_line look
note_one_line Older = refl
note_one_line (AddressBytes count) =
    both_one_line (decimal count) (codes " bytes; if linetab upgrade wrote the section, run it with --address-size " ++ decimal count)
    (number_one_line 10 count) (number_one_line 10 count)
note_one_line (NoStrings section) = strings_one_line section
note_one_line (MaybeDead count address) =
    let leaves = both_one_line (hexadecimal address) (codes " leaves them out") (address_one_line address) refl in
    both_one_line (hexadecimal address) _ (address_one_line address)
    (both_one_line (count_text count) (codes "; --dead " ++ (hexadecimal address ++ codes " leaves them out")) (count_one_line count)
    leaves)
note_one_line (NoneDead address) =
    both_one_line (hexadecimal address) (codes ", so --dead leaves nothing out") (address_one_line address) refl
note_one_line Copies = refl
note_one_line HoldsNothing = refl
note_one_line NoSums = refl
note_one_line TableHeader = refl
note_one_line (TableRecord line rule) = both_one_line (line_text line) (rule_text rule) (place_one_line line) (rule_one_line rule)
