use Rattle.lnt_ops.specs.OpSteps.{PassesOperands}
use Rattle.lnt_ops.proofs.unknown.pass_operands.Given as goal

abbrev pub invariant-loop : goal.invariant-loop
invariant-loop l = PassesOperands l.counter l.fn.cursor l.cursor
