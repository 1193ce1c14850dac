use Rattle.std.proofs.Common.{arith}
use Rattle.lnt_ffi.proofs.BracketLemmas.{by_index}
use Rattle.lnt_ffi.proofs.indexed.bracket_of.Goals as goal

pub returns-clause-index : goal.returns-clause-index
returns-clause-index c = λ made small o few op.
    by_index c.args.spans.now c.args.index.now (record { address = c.args.address; op = op })
    made small o few (omega arith) (omega arith) _ _ _ _ _
    c.saturating_sub-offset.ensures c.wrapping_shr.ensures c.min-bucket.ensures c.min-high.ensures
    (rw c.saturating_sub.ensures at c.min-low.ensures)
