use Rattle.std.proofs.Common.{rules}
use Rattle.lnt_dump.proofs.RowLemmas.{digits_before}
use Rattle.lnt_dump.proofs.line.number_before.Goals as goal

pub returns-clause-written : goal.returns-clause-written
returns-clause-written c =
    digits_before c.args.room.now c.decimal_before.new.text c.decimal_before.result c.args.end c.args.n c.args.after (search rules)
    (search rules) (search rules) c.decimal_before.ensures.written c.decimal_before.ensures.after
