use Rattle.std.proofs.Common.{◌-◌, ◌<◌, ◌^◌, length}
use Rattle.lnt_spans.proofs.BisectionLaws.{IsBounded}
use Rattle.lnt_spans.specs.Stepping.{IsBracket}
use Rattle.lnt_spans.proofs.search.lookup.Given as goal

abbrev pub invariant-loop-low : goal.invariant-loop-low
invariant-loop-low l = record {
  bracket : IsBracket l.spans l.position l.low l.high;
  bounded : IsBounded (length l.spans) l.initial.probes l.probes (l.high - l.low);
  size : length l.spans < 2 ^ 64;
}

abbrev pub decreases-loop-low : goal.decreases-loop-low
decreases-loop-low l = l.high - l.low
