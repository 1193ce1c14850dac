use Rattle.lnt_gsym.specs.GsymSpans.{tells}
use Rattle.lnt_gsym.specs.Walking.{count_left, named}
use Rattle.lnt_gsym.proofs.SpanLemmas.{SkippedSoFar}
use Rattle.lnt_gsym.proofs.spans.next_in_part.Given as goal

abbrev pub invariant-loop-row : goal.invariant-loop-row
invariant-loop-row l = SkippedSoFar (tells (named l.names)) l.low l.high l.fn.rows l.rows

abbrev pub decreases-loop-row : goal.decreases-loop-row
decreases-loop-row l = count_left l.rows
