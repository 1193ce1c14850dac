-- The texts that say why a file isn't a symbol file, as their types print them.
use Rattle.std.specs.Prelude.{ℕ, List, ◌++◌, codes, decimal}
use Rattle.lnt_symbols.specs.declared.fault.LineReason.{LineReason}
use Rattle.lnt_symbols.specs.declared.fault.LineReason.TheVariants.{NotARecord, NumberTooLarge, NoFunction, ZeroByte, NotASymbolFile}
use Rattle.lnt_symbols.specs.declared.fault.SymbolFault.{SymbolFault}
use Rattle.lnt_symbols.specs.declared.fault.SymbolFault.TheVariants.{Gsym, Line}
use Rattle.lnt_gsym.specs.FaultTexts.{gsym_fault_text}

-- what is wrong with a line
abbrev pub line_reason_text : LineReason → List ℕ
line_reason_text NotARecord = codes "not a record"
line_reason_text NumberTooLarge = codes "number too large"
line_reason_text NoFunction = codes "no function"
line_reason_text ZeroByte = codes "zero byte"
line_reason_text NotASymbolFile = codes "not a symbol file"

-- why a file isn't a symbol file
abbrev pub symbol_fault_text : SymbolFault → List ℕ
symbol_fault_text (Line number reason) = codes "no 45 symbols line " ++ (decimal number ++ (codes ": " ++ line_reason_text reason))
symbol_fault_text (Gsym fault) = gsym_fault_text fault
