use Rattle.std.proofs.Common.{◌≡◌, ◌+◌, ◌-◌, ◌<◌, ◌≤◌, ◌^◌, drop}
use Rattle.lnt_symbols.specs.BreakpadLines.{is_hexadecimal_digit}
use Rattle.lnt_symbols.specs.Stepping.{number_up_to}
use Rattle.lnt_symbols.proofs.breakpad.plain.more_hexadecimal.Given as goal

abbrev pub invariant-loop-i : goal.invariant-loop-i
invariant-loop-i l = record {
  read : number_up_to 16 is_hexadecimal_digit 32 15 l.first l.text
      ≡ number_up_to 16 is_hexadecimal_digit 32 (15 - l.i) l.value (drop l.i l.text);
  few : l.i ≤ 15;
  bound : l.value < 16 ^ (l.i + 1);
}
