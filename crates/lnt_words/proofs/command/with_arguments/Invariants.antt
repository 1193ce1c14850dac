use Rattle.std.proofs.Common.{◌≡◌, false, take, fold}
use Rattle.clap.specs.Words.{App}
use Rattle.lnt_words.specs.Described.{IsCommand, with_argument_in}
use Rattle.lnt_words.proofs.command.with_arguments.Given as goal

abbrev pub invariant-loop-argument : goal.invariant-loop-argument
invariant-loop-argument l =
    l.fn.excludes ≡ false → (app : App) → IsCommand app l.fn.command
    → IsCommand (fold with_argument_in app (take l.argument-index l.arguments)) l.command
