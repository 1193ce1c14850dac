use Rattle.lnt_compare.proofs.comparison.compare_after.Goals as goal

pub returns-in-Ok : goal.returns-in-Ok
returns-in-Ok g c first list passed bytes narrow begins cut j number =
    let now = rw c.in_default.is at c.in_ok-fault.ensures first list passed bytes narrow begins cut j number in
    record {
      comparison = c.take_records.new.state;
      more = now.0;
      all = now.1;
      records = now.2;
      judged_is = λ by_table. c.in-Ok.ensures list by_table;
    }
