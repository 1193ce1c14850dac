use Rattle.std.proofs.Common.{◌≡◌, false, take, fold}
use Rattle.clap.specs.Words.{App}
use Rattle.lnt_words.specs.Described.{IsCommand, with_subcommand_in}
use Rattle.lnt_words.proofs.command.with_subcommands.Given as goal

abbrev pub invariant-loop-subcommand : goal.invariant-loop-subcommand
invariant-loop-subcommand l =
    l.fn.excludes ≡ false → (app : App) → IsCommand app l.fn.command
    → IsCommand (fold with_subcommand_in app (take l.subcommand-index l.subcommands)) l.command
