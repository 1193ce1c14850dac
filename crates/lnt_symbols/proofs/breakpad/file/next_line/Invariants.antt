use Rattle.std.proofs.Common.{◌≡◌, ◌++◌, ℕ, false, List, take, drop}
use Rattle.lnt_symbols.specs.BreakpadLines.{lines_from, lines_of}
use Rattle.lnt_symbols.proofs.breakpad.file.next_line.Given as goal

abbrev pub invariant-loop-i : goal.invariant-loop-i
invariant-loop-i l = (more : List ℕ) → lines_of (l.bytes ++ more) ≡ lines_from false (take l.i l.bytes) (drop l.i l.bytes ++ more)
