use Rattle.lnt_files.proofs.JudgedLemmas.{AllHavePaths}
use Rattle.lnt_files.proofs.in_place.judged.first_without_path.Given as goal

abbrev pub invariant-loop-index : goal.invariant-loop-index
invariant-loop-index l = AllHavePaths l.fn.ends.line l.fn.ends.general l.fn.table l.entries l.index
