use Rattle.std.proofs.Common.{◌++◌}
use Rattle.lnt_records.specs.Table.{IsTableOf}
use Rattle.lnt_compare.proofs.GatherLemmas.{version_order, version_told}
use Rattle.lnt_compare.proofs.differing.differ_after.Goals as goal

pub returns-in-Table : goal.returns-in-Table
returns-in-Table g c bytes section table rest gathered goes_on coming =
    let items = c.in-Table.records.items in
    let is_table : IsTableOf c.args.version bytes (table ++ items) = rw (c.in_ok-fault.was, c.in-Table.is) at gathered in
    record {
      version = c.args.version;
      table = table ++ items;
      is_table = is_table;
      so = c.past-differences.ensures _ table rest items coming c.of-records.ensures goes_on.order
          (version_order c.args.version bytes (table ++ items) is_table)
          (version_told c.args.version bytes (table ++ items) is_table) goes_on.end_is goes_on.answered_is goes_on.same;
    }
