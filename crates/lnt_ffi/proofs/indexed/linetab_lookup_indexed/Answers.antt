use Rattle.std.proofs.Common.{arith}
use Rattle.lnt_spans.specs.declared.position.Position.{Position}
use Rattle.lnt_spans.proofs.DerivedOrder.{at_most_from_ge, below_from_lt}
use Rattle.lnt_ffi.proofs.LookLemmas.{flat_inside, flat_nowhere}
use Rattle.lnt_ffi.proofs.indexed.linetab_lookup_indexed.Goals as goal

pub returns-then-lt-clause-looked_up : goal.returns-then-lt-clause-looked_up
returns-then-lt-clause-looked_up c = λ o.
    let position : Position = record { address = c.args.address; op = c.args.op } in
    let above = at_most_from_ge {p = position} {q = c.low_end.result} c.if-ge.ensures in
    let below = below_from_lt {p = position} {q = c.high_end.result} c.if-lt.ensures in
    flat_inside c.args.spans.now _ _ _ o c.if-place-spans.true (rw c.low_end.ensures at above, rw c.high_end.ensures at below)

pub returns-then-is_between-clause-looked_up : goal.returns-then-is_between-clause-looked_up
returns-then-is_between-clause-looked_up c = λ o.
    flat_nowhere c.args.spans.now _ _ _ (c.is_between.ensures c.if-is_between.true o) (omega arith)
