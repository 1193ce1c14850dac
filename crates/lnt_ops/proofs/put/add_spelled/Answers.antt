use Rattle.std.proofs.Common.{rules}
use Rattle.lnt_ops.proofs.OpPutLemmas.{spelled_done, spelled_begun, spelled_more}
use Rattle.lnt_ops.proofs.OwnedLemmas.{number_long}
use Rattle.lnt_ops.proofs.put.add_spelled.Goals as goal

pub returns-clause-ok : goal.returns-clause-ok
returns-clause-ok c =
    spelled_done c.args.bytes.now c.args.out.now.items c.loop-number.out.items c.loop-number.cursor c.in_default.field-0 c.requires
    c.loop-number.invariant c.in_default.ensures.err

pub loop-number-preserved : goal.loop-number-preserved
loop-number-preserved c = search (rules, spelled_begun, spelled_more, spelled_done, number_long)

pub loop-number-smaller : goal.loop-number-smaller
loop-number-smaller c = search (rules, spelled_begun, spelled_more, spelled_done, number_long)
