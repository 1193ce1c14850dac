use Rattle.std.proofs.Common.{rules}
use Rattle.lnt_io.proofs.OpenLaws.{opens_then}
use Rattle.lnt_io.proofs.PrefixLaws.{so_stopped}
use Rattle.lnt_answers.proofs.SumPrefixes.{units_stopped}
use Rattle.lnt_answers.proofs.SumLemmas.{sums_of_all, sums_of_more}
use Rattle.lnt_answers.proofs.sums.print_sums.Goals as goal

pub loop-unit-preserved : goal.loop-unit-preserved
loop-unit-preserved g c =
    let before = c.loop-unit.invariant in
    let told = sums_of_more {c = g.W.Write.contents c.print_unit_sums.new.out} {t = c.in_ok-of_unit.of_unit} before.0
    c.args.index.now.units c.loop-unit.unit-index 0 (search rules) before.1 (search rules) in (
      λ name told so. before.0 name told (c.in_ok-of_unit.ensures.later name told so),
      rw c.together-status.ensures told,
      opens_then _ _ _ _ before.2 c.in_ok-of_unit.ensures.opened,
    )

pub returns-clause-sums : goal.returns-clause-sums
returns-clause-sums g c =
    sums_of_all c.args.index.now.units c.loop-unit.unit-index (search rules) c.loop-unit.invariant.1

pub returns-in_err-of_unit-clause-begun : goal.returns-in_err-of_unit-clause-begun
returns-in_err-of_unit-clause-begun g c =
    so_stopped c.from_residual.result _
    (units_stopped {c = g.W.Write.contents c.print_unit_sums.new.out} c.loop-unit.invariant.0 c.args.index.now.units
    c.loop-unit.unit-index 0 (search rules) c.loop-unit.invariant.1 (search rules))

pub returns-in_err-of_unit-clause-opened : goal.returns-in_err-of_unit-clause-opened
returns-in_err-of_unit-clause-opened g c = opens_then _ _ _ _ c.loop-unit.invariant.2 c.in_err-of_unit.ensures.opened

pub returns-in_err-of_unit-clause-later : goal.returns-in_err-of_unit-clause-later
returns-in_err-of_unit-clause-later g c name told so = c.loop-unit.invariant.0 name told (c.in_err-of_unit.ensures.later name told so)
