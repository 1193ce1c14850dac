use Rattle.lnt_cli.specs.Questions.{BeginsGoodFile, asks_copies}
use Rattle.lnt_cli.proofs.StopLemmas.{begins_bad}
use Rattle.lnt_cli.proofs.question.answer_both.Goals as goal

pub returns-in_err-index-clause-stopped : goal.returns-in_err-index-clause-stopped
returns-in_err-index-clause-stopped g c =
    begins_bad (asks_copies c.args.question) c.args.from.now
    (BeginsGoodFile c.args.question (g.F.Source.remaining c.args.other.now)) _ _ _ _ _ c.from_residual.result
    (rw c.counts_copies-any_copy.ensures at c.in_err-index.ensures.stopped)
