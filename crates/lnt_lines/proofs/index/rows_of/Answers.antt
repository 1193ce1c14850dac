use Rattle.std.proofs.Common.{◌≡◌, ◌∙◌, ap, get_or, subst, sym, ℕ}
use Rattle.lnt_machine.specs.Walking.{KeepsProgram, KeptProgram}
use Rattle.lnt_lines.proofs.IndexLemmas.{rows_come, rows_few, same_place}
use Rattle.lnt_lines.proofs.index.rows_of.Goals as goal

pub returns-clause-left : goal.returns-clause-left
returns-clause-left c =
    let found = c.in_ok-program.ensures.lookup.3 in
    rows_few c.args.programs.now c.in_ok-place.place c.in_ok-program.program.now c.sequence.result found.0
    (found.1 c.in_ok-program.program.now) c.sequence.ensures.left

pub returns-clause-rows : goal.returns-clause-rows
returns-clause-rows c rows is =
    let kept : KeptProgram = c.in_ok-program.program.now in
    let found = c.in_ok-program.ensures.lookup.3 in
    let place : c.in_ok-place.place ≡ is.place =
    same_place c.args.units.now c.args.id.unit c.in_ok-place.place is.place c.in_ok-place.ensures is.place_is in
    let keeps : KeepsProgram kept is.unit = subst (λ (k : KeptProgram). KeepsProgram k is.unit)
    (sym (found.1 kept ∙ ap (λ (k : ℕ). get_or c.args.programs.now k kept) place)) (is.keeps kept) in
    rows_come kept is.unit c.args.id.index rows c.sequence.result keeps is.few is.rows_are c.sequence.ensures.none c.sequence.ensures.rows
