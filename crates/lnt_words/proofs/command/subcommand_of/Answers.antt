use Rattle.std.proofs.Common.{rules}
use Rattle.std.proofs.lemmas.Result.{IfOk-weaker}
use Rattle.clap.specs.Words.{new_app}
use Rattle.lnt_words.specs.Described.{IsCommand}
use Rattle.lnt_words.proofs.command.subcommand_of.Goals as goal

pub returns : goal.returns
returns c =
    let made : IsCommand (new_app c.args.subcommand.now.name.now) c.about-command.result =
    record { app_is = search rules; local = search rules } in
    IfOk-weaker c.with_arguments-2.result _ _ (λ whole is free.
    is free _ (c.in_ok-command.ensures free _ (c.with_after-command.ensures _ made))) c.with_arguments-2.ensures
