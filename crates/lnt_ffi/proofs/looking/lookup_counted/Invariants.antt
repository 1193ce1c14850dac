use Rattle.std.proofs.Common.{◌-◌, ◌<◌, ◌≤◌, ◌^◌, length, map}
use Rattle.lnt_spans.proofs.BisectionLaws.{IsBounded}
use Rattle.lnt_spans.specs.Spans.{AreInOrder}
use Rattle.lnt_spans.specs.Stepping.{IsBracket}
use Rattle.lnt_ffi.specs.Flat.{span_of}
use Rattle.lnt_ffi.proofs.looking.lookup_counted.Given as goal

abbrev pub invariant-loop-low : goal.invariant-loop-low
invariant-loop-low l = record {
  within : l.high ≤ length l.spans;
  bounded : IsBounded (length l.spans) l.initial.probes l.probes (l.high - l.low);
  size : length l.spans < 2 ^ 64;
  bracket : AreInOrder (map span_of l.spans) → IsBracket (map span_of l.spans) l.position l.low l.high;
}

abbrev pub decreases-loop-low : goal.decreases-loop-low
decreases-loop-low l = l.high - l.low
