use Rattle.std.proofs.Common.{◌≡◌, ◌+◌, ◌-◌, ◌<◌, ◌≤◌, ◌^◌, drop}
use Rattle.lnt_symbols.specs.BreakpadLines.{is_decimal_digit}
use Rattle.lnt_symbols.specs.Stepping.{number_up_to}
use Rattle.lnt_symbols.proofs.breakpad.plain.more_decimal.Given as goal

abbrev pub invariant-loop-i : goal.invariant-loop-i
invariant-loop-i l = record {
  read : number_up_to 10 is_decimal_digit l.stop 8 l.first l.text
      ≡ number_up_to 10 is_decimal_digit l.stop (8 - l.i) l.value (drop l.i l.text);
  few : l.i ≤ 8;
  bound : l.value < 10 ^ (l.i + 1);
}
