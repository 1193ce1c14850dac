use Rattle.std.proofs.Common.{arith}
use Rattle.lnt_io.proofs.OpenLaws.{opens_then}
use Rattle.lnt_io.proofs.PrefixLaws.{so_stopped}
use Rattle.lnt_lines.specs.Indexed.{file_count_in}
use Rattle.lnt_answers.proofs.SumPrefixes.{sums_stopped}
use Rattle.lnt_answers.proofs.SumLemmas.{sums_more}
use Rattle.lnt_answers.proofs.sums.print_unit_sums.Goals as goal

pub loop-file-preserved : goal.loop-file-preserved
loop-file-preserved g c =
    let before = c.loop-file.invariant in
    let told = sums_more before.0 c.args.unit c.loop-file.file before.1 c.in_ok-of_file.ensures.sum in (
      λ name told so. before.0 name told (c.in_ok-of_file.ensures.later name told so),
      rw c.together-status.ensures told,
      opens_then _ _ _ _ before.2 c.in_ok-of_file.ensures.opened,
    )

pub returns-in_err-of_file-clause-begun : goal.returns-in_err-of_file-clause-begun
returns-in_err-of_file-clause-begun g c =
    so_stopped c.from_residual.result _
    (sums_stopped c.loop-file.invariant.0 c.args.unit c.loop-file.file (file_count_in c.args.index.now c.args.unit) (omega arith)
    c.loop-file.invariant.1 c.in_err-of_file.ensures.begun)

pub returns-in_err-of_file-clause-opened : goal.returns-in_err-of_file-clause-opened
returns-in_err-of_file-clause-opened g c = opens_then _ _ _ _ c.loop-file.invariant.2 c.in_err-of_file.ensures.opened

pub returns-in_err-of_file-clause-later : goal.returns-in_err-of_file-clause-later
returns-in_err-of_file-clause-later g c name told so = c.loop-file.invariant.0 name told (c.in_err-of_file.ensures.later name told so)
