use Rattle.std.proofs.Common.{arith}
use Rattle.lnt_records.proofs.TextLemmas.{flag_put}
use Rattle.lnt_records.proofs.text.flag_before.Goals as goal

pub returns-clause-written : goal.returns-clause-written
returns-clause-written c = flag_put c.args.on c.args.room.now c.args.end c.from.result c.from.ensures (omega (arith, c.requires.0))
    (omega (arith, c.requires.1, c.told-room))
