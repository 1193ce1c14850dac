use Rattle.lnt_dump.proofs.RunWalks.{IsJudging}
use Rattle.lnt_dump.proofs.run.run.Given as goal

abbrev pub invariant-loop-op : goal.invariant-loop-op
invariant-loop-op l = IsJudging l.fn.unit l.op-iterator l.run
