use Rattle.lnt_wire.specs.Leb128.{UnsignedLeb}
use Rattle.lnt_ops.proofs.OpPutLemmas.{coded_put, on_ok_to}
use Rattle.lnt_ops.proofs.put.add_unsigned.Goals as goal

pub returns-clause-ok : goal.returns-clause-ok
returns-clause-ok c = on_ok_to c.append_uleb.result
    (λ p. coded_put UnsignedLeb c.args.code c.args.n c.args.out.now.items c.push.new.self.items c.append_uleb.new.out.items
    c.in_ok-push.ensures.items p) c.append_uleb.ensures.ok
