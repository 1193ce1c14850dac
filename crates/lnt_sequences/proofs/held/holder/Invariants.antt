use Rattle.std.proofs.Common.{◌-◌, ◌<◌, ◌^◌, length}
use Rattle.lnt_spans.proofs.BisectionLaws.{IsBounded}
use Rattle.lnt_sequences.proofs.HolderLemmas.{IsBracket}
use Rattle.lnt_sequences.proofs.held.holder.Given as goal

abbrev pub invariant-loop-low : goal.invariant-loop-low
invariant-loop-low l = record {
  bracket : IsBracket l.extents l.position l.low l.high;
  bounded : IsBounded (length l.extents) l.initial.probes l.probes (l.high - l.low);
  size : length l.extents < 2 ^ 64;
}

abbrev pub decreases-loop-low : goal.decreases-loop-low
decreases-loop-low l = l.high - l.low
