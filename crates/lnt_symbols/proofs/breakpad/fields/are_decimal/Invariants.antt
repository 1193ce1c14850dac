use Rattle.std.proofs.Common.{◌≡◌, drop}
use Rattle.std.specs.List.{list_all}
use Rattle.lnt_symbols.specs.BreakpadLines.{is_decimal_digit}
use Rattle.lnt_symbols.proofs.breakpad.fields.are_decimal.Given as goal

abbrev pub invariant-loop-byte : goal.invariant-loop-byte
invariant-loop-byte l = list_all is_decimal_digit l.text ≡ list_all is_decimal_digit (drop l.byte-index l.text)
