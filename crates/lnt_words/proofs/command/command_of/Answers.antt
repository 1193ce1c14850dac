use Rattle.std.proofs.lemmas.Result.{IfOk-weaker}
use Rattle.lnt_words.specs.Words.{linetab}
use Rattle.lnt_words.proofs.CommandLemmas.{alone, alone_made}
use Rattle.lnt_words.proofs.command.command_of.Goals as goal

pub returns : goal.returns
unfolding linetab
returns c = IfOk-weaker c.with_subcommands.result _ _ (λ command whole free.
    (whole free alone (alone_made _ _ _ _ _ _ c.new.ensures.app c.new.ensures.local
    c.about.ensures c.version.ensures c.subcommand_required-command.ensures)).app_is) c.with_subcommands.ensures
