use Rattle.std.proofs.Common.{◌∙◌, arith, sym}
use Rattle.lnt_spans.proofs.DerivedOrder.{below_from_lt}
use Rattle.lnt_ffi.proofs.LookLemmas.{begun}
use Rattle.lnt_ffi.proofs.indexed.begins_above.Goals as goal

pub returns : goal.returns
returns c = λ is o.
    let here = below_from_lt {p = c.args.position} {q = c.low_end.result} (sym is ∙ c.lt.ensures) in
    begun c.args.spans.now _ _ _ o (omega arith) (rw c.low_end.ensures at here)
