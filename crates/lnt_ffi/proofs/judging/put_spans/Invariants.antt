use Rattle.std.proofs.Common.{◌≡◌, List, drop, length}
use Rattle.lnt_spans.specs.declared.span.Span.{Span}
use Rattle.lnt_ffi.proofs.PutLemmas.{HasPut}
use Rattle.lnt_ffi.proofs.judging.put_spans.Given as goal

abbrev pub invariant-loop-span : goal.invariant-loop-span
invariant-loop-span g l = record {
  size : length l.room ≡ length l.fn.room;
  behind : drop l.count l.room ≡ drop l.count l.fn.room;
  put : (list : List Span) → g.S.SpanSource.to_come l.fn.spans list → HasPut list l.count l.room (g.S.SpanSource.to_come l.spans);
}

abbrev pub decreases-loop-span : goal.decreases-loop-span
decreases-loop-span g l = g.S.SpanSource.left l.spans
