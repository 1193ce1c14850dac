use Rattle.std.proofs.Common.{false, inr}
use Rattle.lnt_io.proofs.PrefixLaws.{so_stopped}
use Rattle.lnt_lines.specs.declared.section.JudgedIndex.TheVariants.{Good}
use Rattle.lnt_cli.specs.Questions.{BeginsGood}
use Rattle.lnt_cli.proofs.StopLemmas.{begins_bad, stopped_by}
use Rattle.lnt_cli.proofs.question.answer_opened.Goals as goal

pub returns-in_err-index-clause-stopped : goal.returns-in_err-index-clause-stopped
returns-in_err-index-clause-stopped g c =
    begins_bad false c.args.from.now (BeginsGood (g.O.Files.finds c.args.opener.now) c.args.question.now) _ _ _ _ _
    c.from_residual-in_err-index.result c.in_err-index.ensures.stopped

pub returns-in_err-status-in-Good-clause-stopped : goal.returns-in_err-status-in-Good-clause-stopped
returns-in_err-status-in-Good-clause-stopped g c =
    let judged = rw c.in-Good.is at c.in_ok-index.ensures.judged in
    let silent = rw c.in-Good.is at c.in_ok-index.ensures.silent in
    stopped_by _ _ c.print_answer-printed.result c.from_residual-in_err-status-in-Good.result
    (so_stopped c.from_residual-in_err-status-in-Good.result _ c.in_err-status-in-Good.ensures.err)
    c.print_answer-printed.ensures.stopped (λ begun. inr (Good c.in-Good.index, judged, rw (silent tt) at begun))
