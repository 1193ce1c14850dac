use Rattle.std.proofs.Common.{inl, inr, refl, rules}
use Rattle.lnt_io.proofs.PrefixLaws.{so_stopped}
use Rattle.lnt_spans.specs.Answers.{in_version}
use Rattle.lnt_spans.specs.Differences.{stretch_of}
use Rattle.lnt_sequences.specs.Sequences.{line_answer}
use Rattle.lnt_answers.proofs.GivenLemmas.{first_wrong}
use Rattle.lnt_answers.proofs.ScopeLemmas.{end_begun, end_told, wrong_begun, wrong_printed}
use Rattle.lnt_answers.proofs.StretchLemmas.{number_fault, numbers_ended, holds_by_number, other_fault}
use Rattle.lnt_answers.proofs.wrong.print_numbers.Goals as goal

pub returns-in_err-print_line-in-Fault-clause-begun : goal.returns-in_err-print_line-in-Fault-clause-begun
returns-in_err-print_line-in-Fault-clause-begun g c =
    so_stopped c.from_residual-in_err-print_line-in-Fault.result _
    (inr (λ selection is live.
    let all = c.spans.ensures.gives selection is in
    let told = rw c.in-Fault.is at
    (c.in_ok-fault.ensures.differing all.spans (line_answer selection) all.to_come all.in_order all.answers) in
    number_fault c.args.report c.args.index.now selection c.args.text.now c.in-Fault.fault told
    (other_fault c.args.text.now c.args.version c.in-Fault.fault c.requires.begins told) (search rules)))

pub returns-in_err-coverage-in-Table-clause-begun : goal.returns-in_err-coverage-in-Table-clause-begun
returns-in_err-coverage-in-Table-clause-begun g c =
    so_stopped c.from_residual-in_err-coverage-in-Table.result _
    (inr (λ selection is live.
    let all = c.spans.ensures.gives selection is in
    let told = rw c.in-Table.is at
    (c.in_ok-fault.ensures.differing all.spans (line_answer selection) all.to_come all.in_order all.answers) in
    inr (
      c.requires.copies,
      inl (holds_by_number selection c.args.text.now c.args.version _ _ c.requires.begins told (λ f f' same found.
          wrong_begun stretch_of _ c.requires.copies (λ now given so. first_wrong so)
          (c.in_err-coverage-in-Table.ensures.begun
          (record { scope = c.args.report.scope; tell = in_version c.args.version; selection = selection; by_section = f; by_table = f' })
          (record {
            scope_is = c.of-wrong.ensures.scope;
            tell_is = rw c.of-wrong.ensures.kept refl;
            so = c.of-wrong.ensures.begun selection f f' is live same found;
          })))),
    )))

pub returns-in_err-status-in-Table-clause-begun : goal.returns-in_err-status-in-Table-clause-begun
returns-in_err-status-in-Table-clause-begun g c =
    so_stopped c.from_residual-in_err-status-in-Table.result _
    (inr (λ selection is live.
    let all = c.spans.ensures.gives selection is in
    let told = rw c.in-Table.is at
    (c.in_ok-fault.ensures.differing all.spans (line_answer selection) all.to_come all.in_order all.answers) in
    numbers_ended c.args.report c.args.index.now selection c.args.text.now
    (holds_by_number selection c.args.text.now c.args.version _ _ c.requires.begins told (λ f f' same found.
    end_begun
    (wrong_printed stretch_of _ c.requires.copies
    (c.in_ok-coverage-in-Table.ensures.lines
    (record { scope = c.args.report.scope; tell = in_version c.args.version; selection = selection; by_section = f; by_table = f' })
    (record {
      scope_is = c.of-wrong.ensures.scope;
      tell_is = rw c.of-wrong.ensures.kept refl;
      so = c.of-wrong.ensures.begun selection f f' is live same found;
    })))
    c.in_err-status-in-Table.ensures.prefix))))

pub returns-in_ok-print_line-in-Fault-clause-printed : goal.returns-in_ok-print_line-in-Fault-clause-printed
returns-in_ok-print_line-in-Fault-clause-printed g c selection is live =
    let all = c.spans.ensures.gives selection is in
    let told = rw c.in-Fault.is at
    (c.in_ok-fault.ensures.differing all.spans (line_answer selection) all.to_come all.in_order all.answers) in
    (told, other_fault c.args.text.now c.args.version c.in-Fault.fault c.requires.begins told)

pub returns-in_ok-status-in-Table-clause-printed : goal.returns-in_ok-status-in-Table-clause-printed
returns-in_ok-status-in-Table-clause-printed g c selection is live =
    let all = c.spans.ensures.gives selection is in
    let told = rw c.in-Table.is at
    (c.in_ok-fault.ensures.differing all.spans (line_answer selection) all.to_come all.in_order all.answers) in
    holds_by_number selection c.args.text.now c.args.version _ _ c.requires.begins told (λ f f' same found.
    end_told
    (wrong_printed stretch_of _ c.requires.copies
    (c.in_ok-coverage-in-Table.ensures.lines
    (record { scope = c.args.report.scope; tell = in_version c.args.version; selection = selection; by_section = f; by_table = f' })
    (record {
      scope_is = c.of-wrong.ensures.scope;
      tell_is = rw c.of-wrong.ensures.kept refl;
      so = c.of-wrong.ensures.begun selection f f' is live same found;
    })))
    c.in_ok-status-in-Table.ensures.text c.in_ok-status-in-Table.ensures.status)
