use Rattle.lnt_machine.proofs.MatrixLemmas.{MadeSoFar}
use Rattle.lnt_machine.proofs.unit_rows.matrix.Given as goal

abbrev pub invariant-loop-op : goal.invariant-loop-op
invariant-loop-op l = MadeSoFar l.unit l.op-index l.run l.sequences.items l.rows.items
