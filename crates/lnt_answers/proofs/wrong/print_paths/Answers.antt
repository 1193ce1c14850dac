use Rattle.std.proofs.Common.{List, inr, map, refl, rules, subst, sym}
use Rattle.lnt_io.proofs.PrefixLaws.{so_stopped}
use Rattle.lnt_compare.specs.declared.path_tables.held.HeldSpan.{HeldSpan}
use Rattle.lnt_compare.specs.Held.{held_span}
use Rattle.lnt_compare.specs.PathStretches.{stretch_of}
use Rattle.lnt_records.specs.PathSpans.{StandInOrder, path_answer, path_span_answer}
use Rattle.lnt_records.specs.PathTables.{IsPathTableOf}
use Rattle.lnt_table.specs.Headline.{indexed_path, told_path}
use Rattle.lnt_answers.proofs.GivenLemmas.{first_wrong}
use Rattle.lnt_answers.proofs.ScopeLemmas.{end_begun, end_told, wrong_begun, wrong_printed}
use Rattle.lnt_answers.proofs.StretchLemmas.{path_fault, paths_ended, holds_by_path, told_as}
use Rattle.lnt_answers.proofs.wrong.print_paths.Goals as goal

pub returns-in_err-print_line-in-Fault-clause-begun : goal.returns-in_err-print_line-in-Fault-clause-begun
returns-in_err-print_line-in-Fault-clause-begun g c =
    so_stopped c.from_residual-in_err-print_line-in-Fault.result _
    (inr (λ selection is live.
    path_fault c.args.report c.args.index.now selection c.args.text.now c.in-Fault.fault
    (c.requires.unnumbered, rw c.in-Fault.is at c.in_ok-fault.ensures.held) (search rules)))

pub returns-in_err-coverage-in-Table-clause-begun : goal.returns-in_err-coverage-in-Table-clause-begun
returns-in_err-coverage-in-Table-clause-begun g c =
    so_stopped c.from_residual-in_err-coverage-in-Table.result _
    (inr (λ selection is live.
    let version = c.in-Table.version in
    let held = c.deref.result.now in
    let section = told_path version c.args.index.now selection in
    let table = path_span_answer (map held_span held) in
    let order = subst (λ (spans : List HeldSpan). StandInOrder (map held_span spans)) (sym c.deref.ensures.value)
    (rw c.in-Table.is at c.in_ok-fault.ensures.in_order) in
    let is_table = subst (λ (spans : List HeldSpan). IsPathTableOf version c.args.text.now (map held_span spans))
    (sym c.deref.ensures.value) (rw c.in-Table.is at c.in_ok-fault.ensures.held) in
    inr (
      c.requires.copies,
      inr (holds_by_path c.args.index.now selection c.args.text.now version (map held_span held) _ is_table
          (wrong_begun stretch_of _ c.requires.copies (λ now given so. first_wrong so)
          (c.in_err-coverage-in-Table.ensures.begun
          (record {
            scope = c.args.report.scope;
            tell = path_answer version (indexed_path c.args.index.now);
            selection = selection;
            by_section = section;
            by_table = table;
          })
          (record {
            scope_is = c.of-wrong.ensures.scope;
            tell_is = rw c.of-wrong.ensures.kept refl;
            so = c.of-wrong.ensures.begun selection section table is live (told_as version c.args.index.now selection is)
                (c.differences_by_path.ensures.by_units selection is order);
          })))),
    )))

pub returns-in_err-status-in-Table-clause-begun : goal.returns-in_err-status-in-Table-clause-begun
returns-in_err-status-in-Table-clause-begun g c =
    so_stopped c.from_residual-in_err-status-in-Table.result _
    (inr (λ selection is live.
    let version = c.in-Table.version in
    let held = c.deref.result.now in
    let section = told_path version c.args.index.now selection in
    let table = path_span_answer (map held_span held) in
    let order = subst (λ (spans : List HeldSpan). StandInOrder (map held_span spans)) (sym c.deref.ensures.value)
    (rw c.in-Table.is at c.in_ok-fault.ensures.in_order) in
    let is_table = subst (λ (spans : List HeldSpan). IsPathTableOf version c.args.text.now (map held_span spans))
    (sym c.deref.ensures.value) (rw c.in-Table.is at c.in_ok-fault.ensures.held) in
    paths_ended c.args.report c.args.index.now selection c.args.text.now
    (holds_by_path c.args.index.now selection c.args.text.now version (map held_span held) _ is_table
    (end_begun
    (wrong_printed stretch_of _ c.requires.copies
    (c.in_ok-coverage-in-Table.ensures.lines
    (record {
      scope = c.args.report.scope;
      tell = path_answer version (indexed_path c.args.index.now);
      selection = selection;
      by_section = section;
      by_table = table;
    })
    (record {
      scope_is = c.of-wrong.ensures.scope;
      tell_is = rw c.of-wrong.ensures.kept refl;
      so = c.of-wrong.ensures.begun selection section table is live (told_as version c.args.index.now selection is)
          (c.differences_by_path.ensures.by_units selection is order);
    })))
    c.in_err-status-in-Table.ensures.prefix))))

pub returns-in_ok-status-in-Table-clause-printed : goal.returns-in_ok-status-in-Table-clause-printed
returns-in_ok-status-in-Table-clause-printed g c selection is live =
    let version = c.in-Table.version in
    let held = c.deref.result.now in
    let section = told_path version c.args.index.now selection in
    let table = path_span_answer (map held_span held) in
    let order = subst (λ (spans : List HeldSpan). StandInOrder (map held_span spans)) (sym c.deref.ensures.value)
    (rw c.in-Table.is at c.in_ok-fault.ensures.in_order) in
    let is_table = subst (λ (spans : List HeldSpan). IsPathTableOf version c.args.text.now (map held_span spans))
    (sym c.deref.ensures.value) (rw c.in-Table.is at c.in_ok-fault.ensures.held) in
    holds_by_path c.args.index.now selection c.args.text.now version (map held_span held) _ is_table
    (end_told
    (wrong_printed stretch_of _ c.requires.copies
    (c.in_ok-coverage-in-Table.ensures.lines
    (record {
      scope = c.args.report.scope;
      tell = path_answer version (indexed_path c.args.index.now);
      selection = selection;
      by_section = section;
      by_table = table;
    })
    (record {
      scope_is = c.of-wrong.ensures.scope;
      tell_is = rw c.of-wrong.ensures.kept refl;
      so = c.of-wrong.ensures.begun selection section table is live (told_as version c.args.index.now selection is)
          (c.differences_by_path.ensures.by_units selection is order);
    })))
    c.in_ok-status-in-Table.ensures.text c.in_ok-status-in-Table.ensures.status)
