use Rattle.std.proofs.Common.{take, IsNone, All}
use Rattle.lnt_lines.specs.Indexed.{file_sum_in}
use Rattle.lnt_answers.proofs.sums.lists_sums.Given as goal

abbrev pub invariant-loop-unit : goal.invariant-loop-unit
invariant-loop-unit l = All (λ unit. IsNone (file_sum_in l.index unit 0)) (take l.unit-index l.index.units)
