-- The texts that say why a section isn't converted.
use Rattle.std.specs.Prelude.{ℕ, List, ◌++◌, codes}
use Rattle.lnt_wire.specs.FaultTexts.{fault_text, hexadecimal}
use Rattle.lnt_unit.specs.declared.convert.ConvertFault.{ConvertFault}
use Rattle.lnt_unit.specs.declared.convert.ConvertFault.TheVariants.{Malformed, TooLarge, Memory}

-- why a section isn't converted
abbrev pub convert_fault_text : ConvertFault → List ℕ
convert_fault_text (Malformed fault) = fault_text fault
convert_fault_text (TooLarge offset) = codes "too large unit " ++ hexadecimal offset
convert_fault_text Memory = codes "out of memory"
