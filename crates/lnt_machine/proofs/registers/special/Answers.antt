use Rattle.std.proofs.Common.{◌≡◌, ap, sym, ◌∙◌, rules}
use Rattle.std.proofs.lemmas.Result.{err_from_is_err_and}
use Rattle.lnt_header.specs.declared.op.Op.TheVariants.{Special}
use Rattle.lnt_machine.specs.Changes.{line_reached, special_row, without_flags}
use Rattle.lnt_machine.specs.Registers.{IsLine}
use Rattle.lnt_machine.proofs.registers.special.Goals as goal

pub returns-clause-after : goal.returns-clause-after
returns-clause-after c =
    let row_is : c.append.new.row ≡ special_row c.args.numbers.now c.args.registers.now c.args.opcode = search rules in
    c.append.ensures.reset ∙ ap without_flags (sym c.append.ensures.row ∙ row_is)

pub returns-clause-line : goal.returns-clause-line
returns-clause-line c = search rules

pub returns-in_err-registers-clause-err : goal.returns-in_err-registers-clause-err
returns-in_err-registers-clause-err c =
    let p = err_from_is_err_and c.from_residual.result c.from_residual.ensures.1 in
    let beyond : IsLine (line_reached c.args.numbers.now c.args.registers.now (Special c.args.opcode)) → ⊥ = search rules in
    rw p.1 beyond
