use Rattle.lnt_wire.specs.Numbers.{NumberBytes}
use Rattle.lnt_ops.proofs.OpPutLemmas.{coded_put, on_ok_to}
use Rattle.lnt_ops.proofs.put.add_number.Goals as goal

pub returns-clause-ok : goal.returns-clause-ok
returns-clause-ok c = on_ok_to c.put_u16.result
    (λ p. coded_put (NumberBytes c.args.order 2) c.args.code c.args.n c.args.out.now.items c.push.new.self.items c.put_u16.new.out.items
    c.in_ok-push.ensures.items p) c.put_u16.ensures.ok
