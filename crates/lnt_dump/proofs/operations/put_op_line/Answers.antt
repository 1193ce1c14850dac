use Rattle.lnt_dump.proofs.Operands.{line_told}
use Rattle.lnt_dump.proofs.operations.put_op_line.Goals as goal

pub returns : goal.returns
returns c =
    line_told c.args.op.now c.args.index c.args.text.now.items _ _ _ _ c.in_ok-put_named.ensures c.in_ok-push.ensures.items
    c.in_ok-put_op.ensures c.in_ok-push-2.ensures.items
