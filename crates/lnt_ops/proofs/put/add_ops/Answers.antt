use Rattle.std.proofs.lemmas.Result.{err_from_is_err_and}
use Rattle.std.proofs.Common.{rules}
use Rattle.lnt_ops.proofs.OpPutLemmas.{appended_extends, extends_more, ops_more}
use Rattle.lnt_header.proofs.FirstLaws.{all_at}
use Rattle.lnt_header.proofs.PutLaws.{each_begun, each_done}
use Rattle.lnt_ops.proofs.put.add_ops.Goals as goal

pub returns-in_err-add_op-clause-extends : goal.returns-in_err-add_op-clause-extends
returns-in_err-add_op-clause-extends c =
    let p = err_from_is_err_and c.from_residual.result c.from_residual.ensures.1 in
    rw p.1 (extends_more _ _ _ (appended_extends _ _ _ _ c.loop-op.invariant) c.in_err-add_op.ensures.extends)

pub loop-op-preserved : goal.loop-op-preserved
loop-op-preserved c =
    ops_more c.args.numbers.now c.args.ops.now c.loop-op.op-index c.op-item.result _ _ _ c.loop-op-test.true c.op-item.is
    c.loop-op.invariant
    c.in_ok-add_op.ensures.ok

pub add_op-requires : goal.add_op-requires
add_op-requires c = search (rules, each_begun, ops_more, each_done, all_at)

pub returns-clause-ok : goal.returns-clause-ok
returns-clause-ok c = search (rules, each_begun, ops_more, each_done, all_at)
