use Rattle.std.proofs.Common.{rules}
use Rattle.lnt_wire.specs.Leb128.{UnsignedLeb}
use Rattle.lnt_header.proofs.PutLaws.{each_begun, each_more, each_done}
use Rattle.lnt_ops.proofs.put.add_numbers.Goals as goal

pub loop-number-preserved : goal.loop-number-preserved
loop-number-preserved c = each_more UnsignedLeb _ _ _ _ _ _ c.loop-number-test.true c.loop-number.invariant c.in_ok-append_uleb.ensures.ok

pub returns-clause-ok : goal.returns-clause-ok
returns-clause-ok c = search (rules, each_begun, each_more, each_done)
