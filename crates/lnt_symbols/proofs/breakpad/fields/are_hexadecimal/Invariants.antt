use Rattle.std.proofs.Common.{◌≡◌, drop}
use Rattle.std.specs.List.{list_all}
use Rattle.lnt_symbols.specs.BreakpadLines.{is_hexadecimal_digit}
use Rattle.lnt_symbols.proofs.breakpad.fields.are_hexadecimal.Given as goal

abbrev pub invariant-loop-byte : goal.invariant-loop-byte
invariant-loop-byte l = list_all is_hexadecimal_digit l.text ≡ list_all is_hexadecimal_digit (drop l.byte-index l.text)
