use Rattle.lnt_gsym.specs.Spanning.{count_to_come}
use Rattle.lnt_gsym.proofs.SourceLemmas.{SourceSoFar}
use Rattle.lnt_gsym.proofs.spans.GsymSpansSpanSource.next_span.Given as goal

abbrev pub invariant-loop-span : goal.invariant-loop-span
invariant-loop-span l = SourceSoFar l.fn.self l.self

abbrev pub decreases-loop-span : goal.decreases-loop-span
decreases-loop-span l = count_to_come l.self
