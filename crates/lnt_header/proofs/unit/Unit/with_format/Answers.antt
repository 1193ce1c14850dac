use Rattle.lnt_header.proofs.ConversionLaws.{ops_in_order}
use Rattle.lnt_header.proofs.unit.Unit.with_format.Goals as goal

pub of-requires : goal.of-requires
of-requires c =
    rw c.with_format.ensures (ops_in_order c.self.inside.header.numbers c.args.order c.self.inside.ops c.self.invariant.ops)
