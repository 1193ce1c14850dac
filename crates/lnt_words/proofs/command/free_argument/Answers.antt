use Rattle.lnt_words.proofs.CommandLemmas.{several_taken}
use Rattle.lnt_words.proofs.command.free_argument.Goals as goal

pub returns-in-WordsUnless : goal.returns-in-WordsUnless
returns-in-WordsUnless c =
    rw c.in-WordsUnless.is (several_taken _ _ _ _ c.named-in-WordsUnless.ensures c.num_args.ensures.0 c.num_args.ensures.1
    c.action-in-WordsUnless.ensures)
