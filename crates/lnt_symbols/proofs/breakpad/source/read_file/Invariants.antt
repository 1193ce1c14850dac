use Rattle.std.proofs.Common.{◌≡◌, ◌++◌, ℕ, List, Some}
use Rattle.lnt_compare.specs.Passing.{Passes}
use Rattle.lnt_symbols.specs.BreakpadLines.{lines_of}
use Rattle.lnt_symbols.specs.Stepping.{HasRead}
use Rattle.lnt_symbols.proofs.breakpad.source.read_file.Given as goal

abbrev pub invariant-loop-left : goal.invariant-loop-left
invariant-loop-left g l = record {
  base : l.reader.base ≡ l.fn.base;
  failures : g.R.Source.failures l.file ≡ g.R.Source.failures l.fn.file;
  name : g.R.Source.name l.file ≡ g.R.Source.name l.fn.file;
  passes : (passed : List ℕ) × Passes (g.R.Source.remaining l.fn.file) (g.R.Source.remaining l.file) (g.R.Source.left l.fn.file)
      (g.R.Source.left l.file) l.fn.window l.window passed;
  read : (more : List ℕ) → g.R.Source.remaining l.fn.file ≡ Some more → (later : List ℕ) → g.R.Source.remaining l.file ≡ Some later
      → HasRead (l.fn.window ++ more) l.reader (lines_of (l.window ++ later));
}

abbrev pub decreases-loop-left : goal.decreases-loop-left
decreases-loop-left g l = g.R.Source.left l.file
