-- The line that says why a section isn't good, as its type prints it.
use Rattle.std.specs.Prelude.{ℕ, List, ◌++◌, codes, decimal}
use Rattle.lnt_sequences.specs.FaultTexts.{overlap_text}
use Rattle.lnt_lines.specs.declared.no.No.{No}
use Rattle.lnt_lines.specs.declared.no.No.TheVariants.{Malformed, Run, EntryFormat, StringOutside, DirectoryNumber, FileNumber, Falls}
use Rattle.lnt_lines.specs.declared.no.No.TheVariants.{Overlap}
use Rattle.lnt_wire.specs.FaultTexts.{hexadecimal}
use Rattle.lnt_files.specs.FaultTexts.{table_text}
use Rattle.lnt_machine.specs.FaultTexts.{run_text}
use Rattle.lnt_text.specs.Texts.{malformed_text}

-- why a section isn't good
abbrev pub no_text : No → List ℕ
no_text (Malformed fault) = malformed_text fault
no_text (Run unit fault) = run_text unit fault
no_text (EntryFormat unit which) = codes "no 27 entry format unit " ++ (hexadecimal unit ++ (codes " " ++ table_text which))
no_text (StringOutside unit which entry) =
    codes "no 28 string outside unit " ++ (hexadecimal unit ++ (codes " " ++ (table_text which ++ (codes " entry " ++ decimal entry))))
no_text (DirectoryNumber unit file) = codes "no 29 directory number unit " ++ (hexadecimal unit ++ (codes " file " ++ decimal file))
no_text (FileNumber unit row file) =
    codes "no 30 file number unit " ++ (hexadecimal unit ++ (codes " row " ++ (decimal row ++ (codes " file " ++ decimal file))))
no_text (Falls unit row) = codes "no 31 falls unit " ++ (hexadecimal unit ++ (codes " row " ++ decimal row))
no_text (Overlap first second position) =
    codes "no 32 " ++ overlap_text (record { first = first; second = second; position = position })
