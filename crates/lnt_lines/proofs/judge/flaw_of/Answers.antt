use Rattle.lnt_lines.proofs.JudgeLemmas.{flaw_judged}
use Rattle.lnt_lines.proofs.judge.flaw_of.Goals as goal

pub returns : goal.returns
returns c =
    rw c.or-2.ensures (rw c.or.ensures (rw c.tables_no-tables.ensures (rw c.missing_no-missing.ensures (rw c.falls_no-falls.ensures
    (flaw_judged c.args.ends.now.line c.args.ends.now.general c.args.view.now c.header.result c.args.unit c.tables_fault.result
    c.args.found.missing c.args.found.falls c.requires c.header.ensures c.tables_fault.ensures)))))
