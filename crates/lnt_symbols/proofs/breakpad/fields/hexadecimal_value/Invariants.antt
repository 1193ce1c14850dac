use Rattle.std.proofs.Common.{◌≡◌, ◌<◌, ◌^◌, drop, true}
use Rattle.std.specs.List.{list_all}
use Rattle.lnt_text.specs.Digits.{digits_value}
use Rattle.lnt_symbols.specs.BreakpadLines.{is_hexadecimal_digit}
use Rattle.lnt_symbols.proofs.breakpad.fields.hexadecimal_value.Given as goal

abbrev pub invariant-loop-byte : goal.invariant-loop-byte
invariant-loop-byte l = record {
  all : list_all is_hexadecimal_digit (drop l.byte-index l.text) ≡ true;
  value : digits_value 16 0 l.text ≡ digits_value 16 l.value (drop l.byte-index l.text);
  bound : l.value < 16 ^ l.byte-index;
}
