use Rattle.std.proofs.Common.{◌≡◌, rules, subst}
use Rattle.lnt_sequences.specs.Sequences.{line_answer}
use Rattle.lnt_compare.specs.Differing.{IsDiffering}
use Rattle.lnt_compare.specs.declared.outcome.TableRead.TheVariants.{Fault}
use Rattle.lnt_records.specs.declared.fault.TableFault.TheVariants as fault
use Rattle.lnt_table.proofs.any_differing.differ_text.Goals as goal

pub differ_records-requires : goal.differ_records-requires
differ_records-requires c =
    let known = c.spans.ensures.is_index in
    let all = c.spans.ensures.gives known.selection known.index_is in
    (all.spans, all.to_come, all.in_order)

pub returns-in-Fault-Header-clause-any : goal.returns-in-Fault-Header-clause-any
returns-in-Fault-Header-clause-any c selection is =
    let all = c.spans.ensures.gives selection is in
    let same : c.in_ok-differing.differing ≡ Fault fault.Header = search rules in (
      subst (IsDiffering _ _ c.args.text.now (line_answer selection)) same
          (c.in_ok-differing.ensures.differing all.spans (line_answer selection) all.to_come all.in_order all.answers),
      c.in_ok-held.ensures.held,
    )

pub returns-clause-any : goal.returns-clause-any
returns-clause-any c selection is =
    let all = c.spans.ensures.gives selection is in
    (c.in_ok-differing.ensures.differing all.spans (line_answer selection) all.to_come all.in_order all.answers, search rules)
