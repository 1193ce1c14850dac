use Rattle.std.proofs.Common.{◌≡◌, ◌<◌, ◌≤◌, ◌++◌, ℕ, List, [], false, length, IfSome, IsSome, IsTrue, MatchOption}
use Rattle.lnt_symbols.specs.BreakpadLines.{lines_of}
use Rattle.lnt_symbols.specs.Stepping.{HasRead, IsEnd, left_length, lines_left}
use Rattle.lnt_symbols.proofs.breakpad.file.Reader.read.Given as goal

abbrev pub invariant-loop-rest : goal.invariant-loop-rest
invariant-loop-rest l = record {
  base : l.self.base ≡ l.fn.self.base;
  read : (whole more : List ℕ) → HasRead whole l.fn.self (lines_of (l.bytes ++ more)) → (IsTrue l.is_last → more ≡ [])
      → HasRead whole l.self (lines_left l.rest more);
  at_end : IfSome l.rest (λ rest. IsEnd l.bytes rest.now);
  short : IfSome l.rest (λ rest. length rest.now ≤ length l.bytes);
  some : l.is_last ≡ false → IsSome l.rest;
  counts : MatchOption l.rest (0 < l.self.number) (λ _. Unit {0});
}

abbrev pub decreases-loop-rest : goal.decreases-loop-rest
decreases-loop-rest l = left_length l.rest
