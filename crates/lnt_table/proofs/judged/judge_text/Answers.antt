use Rattle.std.proofs.Common.{◌≡◌, rules, subst}
use Rattle.lnt_compare.specs.Outcomes.{IsOutcome}
use Rattle.lnt_compare.specs.declared.outcome.TableRead.TheVariants.{Fault}
use Rattle.lnt_records.specs.declared.fault.TableFault.TheVariants as fault
use Rattle.lnt_table.proofs.JudgedLemmas.{numbered_with, pathed_with}
use Rattle.lnt_table.proofs.judged.judge_text.Goals as goal

pub returns-in-Fault-Header : goal.returns-in-Fault-Header
returns-in-Fault-Header c selection is =
    let table = c.spans.ensures.gives selection is in
    let all = c.spans-in-Fault-Header.ensures.gives selection is in
    let same : c.in_ok-outcome.outcome ≡ Fault fault.Header = search rules in
    let header = subst (IsOutcome c.args.scope c.args.text.now table.spans) same
    (c.in_ok-outcome.ensures table.spans table.to_come table.in_order) in
    pathed_with c.args.text.now c.args.index.now selection c.args.scope all.spans c.in_ok-outcome-2.outcome is
    header all.answers
    (c.in_ok-outcome-2.ensures all.spans all.to_come all.in_order)

pub returns : goal.returns
returns c selection is =
    let all = c.spans.ensures.gives selection is in
    numbered_with c.args.text.now c.args.index.now selection c.args.scope all.spans c.in_ok-outcome.outcome all.answers
    (c.in_ok-outcome.ensures all.spans all.to_come all.in_order, search rules)
