use Rattle.lnt_records.proofs.PathLineLemmas.{record_line}
use Rattle.lnt_records.proofs.path_records.plain.first_record.Goals as goal

pub returns-clause-line : goal.returns-clause-line
returns-clause-line c =
    record_line c.args.version _ _ _ _ _ _ _ _ _ _ c.in_ok-low.ensures c.in_ok-high.ensures c.in_ok-path.ensures c.in_ok-line.ensures
