use Rattle.std.proofs.Common.{◌∙◌, arith}
use Rattle.lnt_machine.proofs.AdvanceLemmas.{advanced_by_parts}
use Rattle.lnt_machine.proofs.registers.advance.Goals as goal

pub returns-else-max_ops-eq1 : goal.returns-else-max_ops-eq1
returns-else-max_ops-eq1 c =
    let same = c.from-max_ops.ensures ∙ c.max_ops.ensures.value in
    advanced_by_parts c.args.numbers.now c.args.registers.now c.args.by c.from-max_ops.result
    c.moved-registers-else-max_ops-eq1.result same (omega (arith, c.from-max_ops.ensures, c.max_ops.ensures.some))
    c.moved-registers-else-max_ops-eq1.ensures
