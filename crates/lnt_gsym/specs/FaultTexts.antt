-- The texts that say why a file isn't a GSYM file, as their types print them.
use Rattle.std.specs.Prelude.{ℕ, List, ◌++◌, codes, decimal}
use Rattle.lnt_wire.specs.FaultTexts.{hexadecimal}
use Rattle.lnt_gsym.specs.declared.fault.GsymFault.{GsymFault}
use Rattle.lnt_gsym.specs.declared.fault.GsymReason.{GsymReason}
use Rattle.lnt_gsym.specs.declared.fault.GsymReason.TheVariants.{Version, AddressSize, UuidSize, Cut, NotInOrder, LineRange}
use Rattle.lnt_gsym.specs.declared.fault.GsymReason.TheVariants.{NumberTooLarge, NoFile}

-- what is wrong with a field
abbrev pub gsym_reason_text : GsymReason → List ℕ
gsym_reason_text Version = codes "version"
gsym_reason_text AddressSize = codes "address size"
gsym_reason_text UuidSize = codes "uuid size"
gsym_reason_text Cut = codes "cut"
gsym_reason_text NotInOrder = codes "not in order"
gsym_reason_text LineRange = codes "line range"
gsym_reason_text NumberTooLarge = codes "number too large"
gsym_reason_text (NoFile file) = codes "no file " ++ decimal file

-- why a file isn't a GSYM file
abbrev pub gsym_fault_text : GsymFault → List ℕ
gsym_fault_text fault = codes "no 45 symbols at " ++ (hexadecimal fault.place ++ (codes ": " ++ gsym_reason_text fault.reason))
