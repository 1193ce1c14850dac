use Rattle.lnt_words.specs.Described.{with_argument_in}
use Rattle.lnt_words.proofs.CommandLemmas.{all_done, argument_added, one_more}
use Rattle.lnt_words.proofs.command.with_arguments.Goals as goal

pub loop-argument-preserved : goal.loop-argument-preserved
loop-argument-preserved c = λ free app is.
    one_more with_argument_in app c.args.arguments.now c.loop-argument.argument-index _ _ c.loop-argument-test.true
    (argument_added _ _ _ _ _ (c.loop-argument.invariant free app is) (c.in_ok-made.ensures free) c.in_ok-command.ensures)

pub returns : goal.returns
returns c = λ free app is.
    all_done with_argument_in app c.args.arguments.now _ _ c.loop-argument-test.false (c.loop-argument.invariant free app is)
