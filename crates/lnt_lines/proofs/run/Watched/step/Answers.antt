use Rattle.std.proofs.Common.{◌≡◌, ◌-◌, [], ◌∷◌, ◌++◌, ◌∙◌, arith, length, sym, refl, true≢false}
use Rattle.std.proofs.lemmas.Grind.{common_steps}
use Rattle.std.proofs.lemmas.Result.{err_from_is_err_and}
use Rattle.lnt_lines.proofs.RunLemmas.{out_at, ran_quiet, ran_row}
use Rattle.lnt_lines.proofs.run.Watched.step.Goals as goal

pub returns-in_err-row-clause-err : goal.returns-in_err-row-clause-err
returns-in_err-row-clause-err c =
    let p = err_from_is_err_and c.from_residual.result c.from_residual.ensures.1 in
    rw (p.1, p.2) (λ other dead view old walk walk' ran step. out_at ran step c.in_err-row.ensures.out_of_range
    c.in_err-row.ensures.fault)

pub returns-in_err-see-clause-err : goal.returns-in_err-see-clause-err
returns-in_err-see-clause-err c =
    let p = err_from_is_err_and c.from_residual-in_err-see.result c.from_residual-in_err-see.ensures.1 in
    rw p.1 (λ other. absurd (other p.2))

pub returns-in_default-clause-goes_on : goal.returns-in_default-clause-goes_on
returns-in_default-clause-goes_on c dead view old walk walk' ran step room left =
    ran_quiet ran step c.in_ok-row.ensures.ok room.0 c.in_default.not-Some

pub returns-else-is_err-clause-goes_on : goal.returns-else-is_err-clause-goes_on
returns-else-is_err-clause-goes_on c dead view old walk walk' ran step room left =
    let watched = c.args.self.now in
    let items : c.push.new.self.items ≡ c.args.places.now.items ++ watched.place ∷ [] = grind (arith, common_steps) in
    let here : watched.length - c.args.left ≡ length view.program - length walk'.at.rest = omega (arith, room.1, left) in
    ran_row ran step c.in_ok-row.ensures.ok room.0 c.in-Some.is c.in_ok-see.ensures.seen
    (λ sequences k. c.in_ok-see.ensures.collects dead view.unit.offset _ _ sequences ran.seen (ran.collects sequences k))
    (λ e. (items, here))
    (λ e. absurd (true≢false (sym c.if-row.true ∙ e)))

pub returns-else-row-clause-goes_on : goal.returns-else-row-clause-goes_on
returns-else-row-clause-goes_on c dead view old walk walk' ran step room left =
    ran_row ran step c.in_ok-row.ensures.ok room.0 c.in-Some.is c.in_ok-see.ensures.seen
    (λ sequences k. c.in_ok-see.ensures.collects dead view.unit.offset _ _ sequences ran.seen (ran.collects sequences k))
    (λ e. absurd (true≢false (sym e ∙ c.if-row.false))) (λ e. (refl, refl))
