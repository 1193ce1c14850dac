use Rattle.lnt_gsym.proofs.JudgeLemmas.{EntriesSoFar}
use Rattle.lnt_gsym.proofs.file.judge_entries.Given as goal

abbrev pub invariant-loop-left : goal.invariant-loop-left
invariant-loop-left l = EntriesSoFar l.of.order l.bytes l.of.base l.of.files l.of.address_size l.count l.left l.starts l.infos
    l.fn.starts l.fn.infos

abbrev pub decreases-loop-left : goal.decreases-loop-left
decreases-loop-left l = l.left
