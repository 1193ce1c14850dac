-- The texts that say why the directories and files of a header can't be used.
use Rattle.std.specs.Prelude.{ℕ, List, ◌++◌, codes, decimal}
use Rattle.lnt_header.specs.declared.header.EntryTable.{EntryTable}
use Rattle.lnt_header.specs.declared.header.EntryTable.TheVariants.{Directories, Files}
use Rattle.lnt_files.specs.declared.tables.EntryTableFault.{EntryTableFault}
use Rattle.lnt_files.specs.declared.tables.EntryTableFault.TheVariants.{EntryFormat, StringOutside, DirectoryNumber}

-- one of the two tables of a header
abbrev pub table_text : EntryTable → List ℕ
table_text Directories = codes "directories"
table_text Files = codes "files"

-- why the tables of a header can't be used
abbrev pub entry_table_fault_text : EntryTableFault → List ℕ
entry_table_fault_text (EntryFormat which) = codes "entry format " ++ table_text which
entry_table_fault_text (StringOutside which entry) = codes "string outside " ++ (table_text which ++ (codes " entry " ++ decimal entry))
entry_table_fault_text (DirectoryNumber file) = codes "directory number file " ++ decimal file
