use Rattle.lnt_files.proofs.JudgedLemmas.{FilesSeen}
use Rattle.lnt_files.proofs.in_place.judged.files_fault.Given as goal

abbrev pub invariant-loop-index : goal.invariant-loop-index
invariant-loop-index l = FilesSeen l.fn.ends.line l.fn.ends.general l.fn.directories l.fn.files l.entries l.index l.missing
