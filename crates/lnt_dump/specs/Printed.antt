-- What was written if a section was converted, or wasn't, or if that stopped.
use Rattle.std.specs.Prelude.{◌≢◌, ◌⊎◌, ℕ, List, [], ◌++◌, Option, codes, decimal}
use Rattle.std.specs.Io.KnownBytes.{Appends, Keeps}
use Rattle.lnt_io.specs.Prefixes.{HasBegun}
use Rattle.lnt_io.specs.declared.status.Status.{Status}
use Rattle.lnt_io.specs.declared.status.Status.TheVariants.{Done, No}
use Rattle.lnt_wire.specs.declared.format.Format.{Format}
use Rattle.lnt_wire.specs.declared.format.Order.{Order}
use Rattle.lnt_unit.specs.Converting.{IsConverted, IsConvertFault}
use Rattle.lnt_unit.specs.declared.convert.ConvertFault.{ConvertFault}
use Rattle.lnt_unit.specs.declared.convert.ConvertFault.TheVariants.{Malformed, TooLarge, Memory}
use Rattle.lnt_unit.specs.FaultTexts.{convert_fault_text}
use Rattle.lnt_text.specs.Texts.{malformed_text}
use Rattle.lnt_wire.specs.FaultTexts.{hexadecimal}
use Rattle.lnt_older.specs.FileZero.{AllNameFiles}
use Rattle.lnt_older.specs.Sections.{IsUpgraded, AreListed, IsUpgradeFault}
use Rattle.lnt_older.specs.declared.directories.Directory.{Directory}
use Rattle.lnt_older.specs.declared.section.UpgradeFault.{UpgradeFault}
use Rattle.lnt_older.specs.declared.section.UpgradeFault.TheVariants as upgrade

-- what was appended to a writer that held these bytes is such a text, and nothing else
abbrev pub IsPrintedIn : (List ℕ → Type 0) → Option (List ℕ) → Option (List ℕ) → Type 0
IsPrintedIn Is old new = (text : List ℕ) × Is text × Appends old new text

-- why a section isn't converted; for lack of memory nothing is printed
abbrev pub refusal_text : ConvertFault → List ℕ
refusal_text (Malformed fault) = malformed_text fault ++ codes "\n"
refusal_text (TooLarge offset) = codes "no 20 " ++ convert_fault_text (TooLarge offset) ++ codes "\n"
refusal_text Memory = []

-- What was appended to a writer that held these bytes is the line that says why the section isn't converted, and that is true. Lack
-- of memory has no line: it is a stop.
abbrev pub IsRefusalPrinted : Order → List ℕ → Format → Order → Option (List ℕ) → Option (List ℕ) → Type 0
IsRefusalPrinted order section format to old new =
    (fault : ConvertFault) × (fault ≢ Memory) × IsConvertFault order section format to fault × Appends old new (refusal_text fault)

-- how the work on a section ends: the converted section was printed, or the line that says why there is none
abbrev pub IsConversionPrinted : Order → List ℕ → Format → Order → Option (List ℕ) → Option (List ℕ) → Status → Type 0
IsConversionPrinted order section format to old new Done = IsPrintedIn (IsConverted order section format to) old new
IsConversionPrinted order section format to old new No = IsRefusalPrinted order section format to old new

-- What was appended to a writer that held these bytes is nothing, or a prefix of what the work on the section might have printed, and
-- nothing else.
abbrev pub IsConversionBegun : Order → List ℕ → Format → Order → Option (List ℕ) → Option (List ℕ) → Type 0
IsConversionBegun order section format to old new =
    Keeps old new ⊎ HasBegun (IsConversionPrinted order section format to old) old new

-- ---- what was written if a section was written anew, or wasn't, or if that stopped

-- which row names file 0 of an older unit, which isn't listed
abbrev pub file_zero_text : ℕ → ℕ → List ℕ
file_zero_text unit row = codes "no 30 file number unit " ++ (hexadecimal unit ++ (codes " row " ++ (decimal row ++ codes " file 0")))

-- why a section isn't written anew; for lack of memory nothing is printed
abbrev pub upgrade_refusal : UpgradeFault → List ℕ
upgrade_refusal (upgrade.Malformed fault) = malformed_text fault ++ codes "\n"
upgrade_refusal (upgrade.Directories place) = codes "no 44 directories record " ++ decimal place ++ codes "\n"
upgrade_refusal (upgrade.TooLarge offset) = refusal_text (TooLarge offset)
upgrade_refusal (upgrade.FileZero unit row) = file_zero_text unit row ++ codes "\n"
upgrade_refusal upgrade.Memory = []

-- How the work on a section ends, whose file of directories has these bytes (text), if there is one: no row of an older unit names file 0,
-- and the section of version 5 that says what its units say was printed; or the line that says why there is none.
abbrev pub IsUpgradePrinted : Order → ℕ → List ℕ → Option (List ℕ) → Option (List ℕ) → Option (List ℕ) → Status → Type 0
IsUpgradePrinted order address_size section text old new Done =
    (directories : List Directory) × AreListed order section text directories × AllNameFiles order address_size section
    × IsPrintedIn (IsUpgraded order address_size directories section) old new
IsUpgradePrinted order address_size section text old new No =
    (fault : UpgradeFault) × (fault ≢ upgrade.Memory) × IsUpgradeFault order address_size section text fault
    × Appends old new (upgrade_refusal fault)

-- What was appended to a writer that held these bytes is nothing, or a prefix of what the work on the section might have printed, and
-- nothing else.
abbrev pub IsUpgradeBegun : Order → ℕ → List ℕ → Option (List ℕ) → Option (List ℕ) → Option (List ℕ) → Type 0
IsUpgradeBegun order address_size section text old new =
    Keeps old new ⊎ HasBegun (IsUpgradePrinted order address_size section text old) old new
