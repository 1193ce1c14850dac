use Rattle.std.proofs.Common.{arith, inl, inr, refl}
use Rattle.lnt_lines.proofs.SpanCountLaws.{permuted_within_section}
use Rattle.lnt_ffi.proofs.judging.linetab_verify.Goals as goal

pub put_spans-requires : goal.put_spans-requires
put_spans-requires c =
    let is = c.in-Some.ensures.good in
    let all = c.spans.ensures.gives _ is.index_is in
    let few = permuted_within_section _ _ _ all.spans all.spans_are is.good.spelled in
    record { few = (all.spans, all.to_come, omega (arith, few)) }

pub returns-in-Some-clause-returned : goal.returns-in-Some-clause-returned
returns-in-Some-clause-returned c =
    let is = c.in-Some.ensures.good in
    let all = c.spans.ensures.gives _ is.index_is in
    inl (
      (
        all.spans,
        record { units = is.units; good = is.good; spans_are = all.spans_are; in_order = all.in_order; answers = all.answers },
        c.put_spans.ensures.count all.spans all.to_come,
        λ fits. c.put_spans.ensures.there all.spans all.to_come (omega (arith, fits, c.put_spans.ensures.length)),
        c.put_spans.ensures.behind,
      ),
      c.in-Some.ensures.yes,
    )

pub returns-in-None-clause-returned : goal.returns-in-None-clause-returned
returns-in-None-clause-returned c = inr (c.in-None.ensures.refused, refl, refl)
