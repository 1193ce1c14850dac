use Rattle.lnt_io.proofs.PrefixLaws.{so_stopped}
use Rattle.std.proofs.Common.{List, [], inr, map, rules, subst, sym}
use Rattle.lnt_spans.specs.Differences.{stretch_of}
use Rattle.lnt_compare.specs.declared.path_tables.held.HeldSpan.{HeldSpan}
use Rattle.lnt_compare.specs.Held.{held_span}
use Rattle.lnt_records.specs.PathSpans.{StandInOrder}
use Rattle.lnt_compare.specs.PathStretches.{stretch_of as path_stretch_of, stretches_of}
use Rattle.lnt_compare.proofs.CompletionLaws.{path_stretches_on}
use Rattle.lnt_answers.proofs.PathStretchLemmas.{for_path_units}
use Rattle.lnt_answers.proofs.ScopeLemmas.{end_begun, end_told, kept_begun, kept_printed}
use Rattle.lnt_answers.proofs.StretchLemmas.{fault_begun, for_units, more_stretches, numbered_begun, of_kept, path_begun, path_fault_begun}
use Rattle.lnt_answers.proofs.printed_stretches.print_differing.Goals as goal

pub print_given-requires : goal.print_given-requires
print_given-requires g c =
    let started = rw (c.in-Ok-Numbered-Table.field-0-is, c.in-Ok-Numbered-Table.field-0-0-is) at c.in-Ok-Numbered-Table.ensures.started in
    rw c.in-Ok-Numbered-Table.differences-is (record { by_section = started.0; by_table = started.1 }, [], started.2)

pub returns-in_ok-status-in-Ok-Numbered-Table-clause-printed : goal.returns-in_ok-status-in-Ok-Numbered-Table-clause-printed
returns-in_ok-status-in-Ok-Numbered-Table-clause-printed g c =
    of_kept c.args.report.any_copy c.args.index.now _ c.requires.kept (λ selection is.
    for_units _ _ _ _ selection _ _ c.in-Ok-Numbered-Table.differences-is
    (rw (c.in-Ok-Numbered-Table.field-0-is, c.in-Ok-Numbered-Table.field-0-0-is) at (c.in-Ok-Numbered-Table.ensures.ok selection is))
    (λ version f f' h.
    end_told
    (kept_printed stretch_of _ c.requires.kept
    (c.in_ok-coverage-in-Ok-Numbered-Table.ensures.lines (record { by_section = f; by_table = f' }) h))
    c.in_ok-status-in-Ok-Numbered-Table.ensures.text c.in_ok-status-in-Ok-Numbered-Table.ensures.status))

pub returns-in_err-coverage-in-Ok-Numbered-Table-clause-begun : goal.returns-in_err-coverage-in-Ok-Numbered-Table-clause-begun
returns-in_err-coverage-in-Ok-Numbered-Table-clause-begun g c =
    so_stopped c.from_residual.result _
    (inr (of_kept c.args.report.any_copy c.args.index.now _ c.requires.kept (λ selection is.
    numbered_begun _ c.args.index.now selection _ _ _ c.in-Ok-Numbered-Table.differences-is
    (rw (c.in-Ok-Numbered-Table.field-0-is, c.in-Ok-Numbered-Table.field-0-0-is) at (c.in-Ok-Numbered-Table.ensures.ok selection is))
    (λ version f f' h.
    kept_begun stretch_of _ c.requires.kept (λ now given so. more_stretches _ _ now f f' given so)
    (c.in_err-coverage-in-Ok-Numbered-Table.ensures.begun (record { by_section = f; by_table = f' }) h)))))

pub returns-in_err-status-in-Ok-Numbered-Table-clause-begun : goal.returns-in_err-status-in-Ok-Numbered-Table-clause-begun
returns-in_err-status-in-Ok-Numbered-Table-clause-begun g c =
    so_stopped c.from_residual-in_err-status-in-Ok-Numbered-Table.result _
    (inr (of_kept c.args.report.any_copy c.args.index.now _ c.requires.kept (λ selection is.
    numbered_begun _ c.args.index.now selection _ _ _ c.in-Ok-Numbered-Table.differences-is
    (rw (c.in-Ok-Numbered-Table.field-0-is, c.in-Ok-Numbered-Table.field-0-0-is) at (c.in-Ok-Numbered-Table.ensures.ok selection is))
    (λ version f f' h.
    end_begun
    (kept_printed stretch_of _ c.requires.kept
    (c.in_ok-coverage-in-Ok-Numbered-Table.ensures.lines (record { by_section = f; by_table = f' }) h))
    c.in_err-status-in-Ok-Numbered-Table.ensures.prefix))))

pub returns-in_err-print_line-in-Ok-Numbered-Fault-clause-begun : goal.returns-in_err-print_line-in-Ok-Numbered-Fault-clause-begun
returns-in_err-print_line-in-Ok-Numbered-Fault-clause-begun g c =
    so_stopped c.from_residual-in_err-print_line-in-Ok-Numbered-Fault.result _
    (inr (of_kept c.args.report.any_copy c.args.index.now _ c.requires.kept (λ selection is.
    fault_begun _ c.args.index.now selection _ _ c.in-Ok-Numbered-Fault.fault
    (rw (c.in-Ok-Numbered-Fault.field-0-is, c.in-Ok-Numbered-Fault.field-0-0-is) at (c.in-Ok-Numbered-Fault.ensures.ok selection is))
    (search rules))))

pub print_given-printed-requires : goal.print_given-printed-requires
print_given-printed-requires g c =
    let started = c.differences_by_path.ensures.started
    (subst (λ (held : List HeldSpan). StandInOrder (map held_span held)) (sym c.deref.ensures.value)
    (rw (c.in-Ok-ByPath-Table.field-0-is, c.in-Ok-ByPath-Table.field-0-0-is) at c.in-Ok-ByPath-Table.ensures.started)) in
    rw c.of.ensures (record { by_section = started.0; by_table = started.1 }, [], started.2)

pub returns-in_ok-status-in-Ok-ByPath-Table-clause-printed : goal.returns-in_ok-status-in-Ok-ByPath-Table-clause-printed
returns-in_ok-status-in-Ok-ByPath-Table-clause-printed g c =
    of_kept c.args.report.any_copy c.args.index.now _ c.requires.kept (λ selection is.
    for_path_units _ c.args.index.now _ _ _ _ _ selection _ _ c.deref.ensures.value c.of.ensures
    (rw (c.in-Ok-ByPath-Table.field-0-is, c.in-Ok-ByPath-Table.field-0-0-is) at (c.in-Ok-ByPath-Table.ensures.ok selection is))
    (rw (c.in-Ok-ByPath-Table.field-0-is, c.in-Ok-ByPath-Table.field-0-0-is) at c.in-Ok-ByPath-Table.ensures.started)
    (c.differences_by_path.ensures.by_units selection is)
    (λ f f' h.
    end_told
    (kept_printed path_stretch_of _ c.requires.kept
    (c.in_ok-coverage-in-Ok-ByPath-Table.ensures.lines (record { by_section = f; by_table = f' }) h))
    c.in_ok-status-in-Ok-ByPath-Table.ensures.text c.in_ok-status-in-Ok-ByPath-Table.ensures.status))

pub returns-in_err-coverage-in-Ok-ByPath-Table-clause-begun : goal.returns-in_err-coverage-in-Ok-ByPath-Table-clause-begun
returns-in_err-coverage-in-Ok-ByPath-Table-clause-begun g c =
    so_stopped c.from_residual-in_err-coverage-in-Ok-ByPath-Table.result _
    (inr (of_kept c.args.report.any_copy c.args.index.now _ c.requires.kept (λ selection is.
    path_begun _ c.args.index.now selection _ _ _ _ c.deref.ensures.value c.of.ensures
    (rw (c.in-Ok-ByPath-Table.field-0-is, c.in-Ok-ByPath-Table.field-0-0-is) at (c.in-Ok-ByPath-Table.ensures.ok selection is))
    (rw (c.in-Ok-ByPath-Table.field-0-is, c.in-Ok-ByPath-Table.field-0-0-is) at c.in-Ok-ByPath-Table.ensures.started)
    (c.differences_by_path.ensures.by_units selection is)
    (λ f f' h.
    kept_begun path_stretch_of _ c.requires.kept
    (λ now given so. path_stretches_on _ _ now.differences f f' (stretches_of given) so)
    (c.in_err-coverage-in-Ok-ByPath-Table.ensures.begun (record { by_section = f; by_table = f' }) h)))))

pub returns-in_err-status-in-Ok-ByPath-Table-clause-begun : goal.returns-in_err-status-in-Ok-ByPath-Table-clause-begun
returns-in_err-status-in-Ok-ByPath-Table-clause-begun g c =
    so_stopped c.from_residual-in_err-status-in-Ok-ByPath-Table.result _
    (inr (of_kept c.args.report.any_copy c.args.index.now _ c.requires.kept (λ selection is.
    path_begun _ c.args.index.now selection _ _ _ _ c.deref.ensures.value c.of.ensures
    (rw (c.in-Ok-ByPath-Table.field-0-is, c.in-Ok-ByPath-Table.field-0-0-is) at (c.in-Ok-ByPath-Table.ensures.ok selection is))
    (rw (c.in-Ok-ByPath-Table.field-0-is, c.in-Ok-ByPath-Table.field-0-0-is) at c.in-Ok-ByPath-Table.ensures.started)
    (c.differences_by_path.ensures.by_units selection is)
    (λ f f' h.
    end_begun
    (kept_printed path_stretch_of _ c.requires.kept
    (c.in_ok-coverage-in-Ok-ByPath-Table.ensures.lines (record { by_section = f; by_table = f' }) h))
    c.in_err-status-in-Ok-ByPath-Table.ensures.prefix))))

pub returns-in_err-print_line-in-Ok-ByPath-Fault-clause-begun : goal.returns-in_err-print_line-in-Ok-ByPath-Fault-clause-begun
returns-in_err-print_line-in-Ok-ByPath-Fault-clause-begun g c =
    so_stopped c.from_residual-in_err-print_line-in-Ok-ByPath-Fault.result _
    (inr (of_kept c.args.report.any_copy c.args.index.now _ c.requires.kept (λ selection is.
    path_fault_begun _ c.args.index.now selection _ c.in-Ok-ByPath-Fault.fault
    (rw (c.in-Ok-ByPath-Fault.field-0-is, c.in-Ok-ByPath-Fault.field-0-0-is) at (c.in-Ok-ByPath-Fault.ensures.ok selection is))
    (search rules))))
