use Rattle.std.proofs.Common.{◌∙◌, rules, sym}
use Rattle.lnt_cli.proofs.question.print_answer.Goals as goal

pub returns-in_err-print_line-in-Verify-clause-stopped : goal.returns-in_err-print_line-in-Verify-clause-stopped
returns-in_err-print_line-in-Verify-clause-stopped g c = search rules

pub returns-in_ok-print_line-in-Verify-clause-answer : goal.returns-in_ok-print_line-in-Verify-clause-answer
returns-in_ok-print_line-in-Verify-clause-answer g c = search rules

pub returns-in-TableByPath-true-clause-stopped : goal.returns-in-TableByPath-true-clause-stopped
returns-in-TableByPath-true-clause-stopped g c =
    rw (c.in-TableByPath-true.is, ← sym c.in-TableByPath-true.columns-test ∙ c.in-TableByPath-true.columns-is)
    c.print_path_table.ensures.begun

pub returns-in-TableByPath-false-clause-stopped : goal.returns-in-TableByPath-false-clause-stopped
returns-in-TableByPath-false-clause-stopped g c =
    rw (c.in-TableByPath-false.is, ← sym c.in-TableByPath-false.columns-test ∙ c.in-TableByPath-false.columns-is)
    c.print_path_table-in-TableByPath-false.ensures.begun
