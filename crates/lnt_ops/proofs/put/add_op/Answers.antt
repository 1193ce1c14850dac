use Rattle.lnt_ops.proofs.OpPutLemmas.{is_op_of_header}
use Rattle.lnt_ops.proofs.put.add_op.Goals as goal

pub put_view-requires-clause-admitted : goal.put_view-requires-clause-admitted
put_view-requires-clause-admitted c =
    is_op_of_header c.args.numbers.now c.args.op.now c.view.result c.address_size.result c.requires c.view.ensures
    c.address_size.ensures.value
