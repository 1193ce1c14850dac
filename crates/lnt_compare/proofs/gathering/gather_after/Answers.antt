use Rattle.std.proofs.Common.{◌++◌}
use Rattle.lnt_records.specs.Table.{column_names}
use Rattle.lnt_compare.proofs.GatherLemmas.{gathers_none}
use Rattle.lnt_records.proofs.NumberLaws.{numbered}
use Rattle.lnt_compare.proofs.gathering.gather_after.Goals as goal

pub returns-in-Some : goal.returns-in-Some
returns-in-Some c table passed bytes is_table ends few cut =
    rw c.in-Some.is at c.in_ok-fault.ensures (column_names c.args.version) table passed bytes (numbered.narrow c.args.version) c.requires
    cut (gathers_none c.args.version _ table passed is_table c.new.ensures.items ends) few

pub returns-in-None : goal.returns-in-None
returns-in-None c table passed bytes is_table ends few cut =
    let now = rw c.in-None.is at c.in_ok-fault.ensures (column_names c.args.version) table passed bytes (numbered.narrow c.args.version)
    c.requires cut (gathers_none c.args.version _ table passed is_table c.new.ensures.items ends) few in
    (passed ++ now.0, now.1, now.2.is_table)
