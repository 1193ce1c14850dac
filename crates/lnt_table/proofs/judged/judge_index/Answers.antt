use Rattle.std.proofs.Common.{arith, sym, ◌∙◌}
use Rattle.lnt_compare.proofs.WindowLaws.{longer_from_start}
use Rattle.lnt_compare.proofs.StreamLaws.{all_taken}
use Rattle.lnt_table.proofs.JudgedLemmas.{begun_by_number, begun_by_path}
use Rattle.lnt_table.proofs.judged.judge_index.Goals as goal

pub returns-in-Some-clause-ok : goal.returns-in-Some-clause-ok
returns-in-Some-clause-ok g c selection is =
    let all = c.spans.ensures.gives selection is in
    begun_by_number _ _ _ _ c.in_ok-window.window c.pass_header.new.window c.in-Some.version c.args.index.now selection
    c.args.scope all.spans c.in_ok-outcome.outcome c.in_ok-window.ensures.taken c.in-Some.ensures
    all.answers
    (c.in_ok-outcome.ensures.ok all.spans all.to_come all.in_order)

pub returns-in-Some-pass_header-clause-ok : goal.returns-in-Some-pass_header-clause-ok
returns-in-Some-pass_header-clause-ok g c selection is =
    let all = c.spans-spans.ensures.gives selection is in
    begun_by_path _ _ _ _ c.in_ok-window.window c.pass_header-2.new.window c.in-Some-pass_header.version c.args.index.now
    selection c.args.scope all.spans c.in_ok-outcome-2.outcome is
    c.in_ok-window.ensures.taken
    (sym c.in_default.ensures ∙ c.in-Some-pass_header.ensures) all.answers
    (c.in_ok-outcome-2.ensures.ok all.spans all.to_come all.in_order)

pub returns-in_err-text-clause-too_long : goal.returns-in_err-text-clause-too_long
returns-in_err-text-clause-too_long g c e =
    grind (
      arith,
      c.in_err-text.ensures.too_long,
      c.from_residual-in_err-text.ensures,
      longer_from_start _ _ _ _ _ _ _ c.in_ok-window.ensures.taken,
      e,
    )

pub returns-clause-ok : goal.returns-clause-ok
returns-clause-ok g c selection index =
    let ends = rw (c.in_default-pass_header.ensures, c.in_default.ensures) at c.in_ok-text.ensures.ok in
    let found = rw c.deref.ensures.value at c.in_ok-judged.ensures in
    all_taken _ _ _ _ c.in_ok-window.window c.in_ok-text.text.items _ c.in_ok-window.ensures.taken ends (found selection index)
