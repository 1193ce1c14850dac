use Rattle.std.proofs.Common.{arith}
use Rattle.lnt_records.proofs.PrefixLaws.{prefix_read}
use Rattle.lnt_records.proofs.wide.up_to_wide.Goals as goal

pub returns : goal.returns
returns c =
    prefix_read c.prefix_of-prefix.result.now c.args.bytes.now c.prefix_of-prefix.ensures (omega (arith, c.if-prefix-lt3.false))
    (c.in_ok-ends_wide.ensures c.if-not-branch.false)
