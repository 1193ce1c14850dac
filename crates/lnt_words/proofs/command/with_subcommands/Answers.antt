use Rattle.lnt_words.specs.Described.{with_subcommand_in}
use Rattle.lnt_words.proofs.CommandLemmas.{all_done, one_more, subcommand_added}
use Rattle.lnt_words.proofs.command.with_subcommands.Goals as goal

pub loop-subcommand-preserved : goal.loop-subcommand-preserved
loop-subcommand-preserved c = λ free app is.
    one_more with_subcommand_in app c.args.subcommands.now c.loop-subcommand.subcommand-index _ _ c.loop-subcommand-test.true
    (subcommand_added _ _ _ _ _ (c.loop-subcommand.invariant free app is) (c.in_ok-made.ensures free) c.in_ok-command.ensures)

pub returns : goal.returns
returns c = λ free app is.
    all_done with_subcommand_in app c.args.subcommands.now _ _ c.loop-subcommand-test.false (c.loop-subcommand.invariant free app is)
