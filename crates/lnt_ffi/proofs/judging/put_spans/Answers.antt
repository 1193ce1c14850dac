use Rattle.std.proofs.Common.{◌+◌, ◌^◌, ◌∙◌, arith, refl}
use Rattle.std.proofs.lemmas.Grind.{drop_more_same}
use Rattle.lnt_ffi.proofs.PutLemmas.{one_counted, one_put}
use Rattle.lnt_ffi.proofs.judging.put_spans.Goals as goal

pub loop-span-preserved : goal.loop-span-preserved
loop-span-preserved g c = record {
  size = c.put_span.ensures.length ∙ c.loop-span.invariant.size;
  behind = c.put_span.ensures.behind ∙ drop_more_same c.loop-span.room c.args.room.now c.loop-span.count c.loop-span.invariant.behind;
  put = λ list coming.
      one_put list c.loop-span.count (c.loop-span.count + 1) c.loop-span.room c.put_span.new.room c.in-Some.span
      (g.S.SpanSource.to_come c.loop-span.spans) (g.S.SpanSource.to_come c.next_span.new.self)
      (c.loop-span.invariant.put list coming) c.in-Some.ensures.gives c.put_span.ensures.length c.put_span.ensures.there
      refl;
}

pub overflow_add-count : goal.overflow_add-count
overflow_add-count g c =
    let few = c.requires.few in
    omega (
      arith,
      one_counted few.0 c.loop-span.count (2 ^ 64) c.loop-span.room c.in-Some.span (g.S.SpanSource.to_come c.loop-span.spans)
          (g.S.SpanSource.to_come c.next_span.new.self) (c.loop-span.invariant.put few.0 few.1) c.in-Some.ensures.gives few.2,
    )
