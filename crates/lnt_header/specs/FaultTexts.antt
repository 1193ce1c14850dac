-- The texts that say why parts aren't those of a header or a unit.
use Rattle.std.specs.Prelude.{ℕ, List, ◌++◌, codes, decimal}
use Rattle.lnt_header.specs.declared.fault.UnitFault.{UnitFault}
use Rattle.lnt_header.specs.declared.fault.UnitFault.TheVariants.{HeaderNumber, EntryNotOfFormat, TextHoldsZero, OpNotOfUnit}
use Rattle.lnt_header.specs.declared.header.EntryTable.{EntryTable}
use Rattle.lnt_header.specs.declared.header.EntryTable.TheVariants.{Directories, Files}

-- an entry of a table
abbrev pub entry_text : EntryTable → List ℕ
entry_text Directories = codes "directory"
entry_text Files = codes "file"

-- why no unit has the parts
abbrev pub unit_fault_text : UnitFault → List ℕ
unit_fault_text HeaderNumber = codes "number or format that no header has"
unit_fault_text (EntryNotOfFormat which index) = entry_text which ++ (codes " " ++ (decimal index ++ codes " isn't of its format"))
unit_fault_text (TextHoldsZero which index) = entry_text which ++ (codes " " ++ (decimal index ++ codes " has a text with a zero byte"))
unit_fault_text (OpNotOfUnit index) = codes "operation " ++ (decimal index ++ codes " isn't one that the header admits")
