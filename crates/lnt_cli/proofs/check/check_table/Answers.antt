use Rattle.std.proofs.Common.{inr, refl, rules}
use Rattle.lnt_io.proofs.PrefixLaws.{appends_known, so_stopped}
use Rattle.lnt_answers.specs.Verdicts.{checked_line, checked_status}
use Rattle.lnt_cli.proofs.StopLemmas.{stopped_by}
use Rattle.lnt_cli.proofs.check.check_table.Goals as goal

pub returns-in_err-of_file-clause-stopped : goal.returns-in_err-of_file-clause-stopped
returns-in_err-of_file-clause-stopped g c =
    let checked = c.in_ok-checked.checked in
    stopped_by _ _ c.print_line-printed.result c.from_residual-in_err-of_file.result
    (so_stopped c.from_residual-in_err-of_file.result _ c.in_err-of_file.ensures.err) c.print_line-printed.ensures.prefix
    (λ prefix. inr (record {
      whole = checked_line c.args.asked.at_least checked;
      ending = checked_status c.args.asked.at_least checked;
      is_end = record {
        checked = checked;
        is_true = c.in_ok-checked.ensures.checked;
        is_true_of_section = c.in_ok-checked.ensures.of_section;
        of_scope = c.in_ok-checked.ensures.of_scope;
        printed = appends_known _ (checked_line c.args.asked.at_least checked);
        status_is = refl;
      };
      prefix = prefix;
    }))

pub returns-clause-answer : goal.returns-clause-answer
returns-clause-answer g c = search rules
