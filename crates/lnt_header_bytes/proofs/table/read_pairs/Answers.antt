use Rattle.std.proofs.Common.{arith, rules}
use Rattle.lnt_header_bytes.specs.TableBytes.{PairBytes}
use Rattle.lnt_header_bytes.proofs.TableReaders.{one_more, refuses_pairs}
use Rattle.lnt_header_bytes.proofs.table.read_pairs.Goals as goal

pub loop-preserved : goal.loop-preserved
loop-preserved c =
    let more = one_more (λ _. PairBytes) _ _ _ _ _ c.loop.invariant.1 c.in_default.ensures.ok in
    (omega (arith, more.0, c.loop.invariant.0), more.1)

pub returns-in-Err-clause-err : goal.returns-in-Err-clause-err
returns-in-Err-clause-err c = search (rules, refuses_pairs, c.in-Err.ensures.err)
