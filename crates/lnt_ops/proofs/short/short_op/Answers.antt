use Rattle.std.proofs.Common.{◌≡◌, arith, refl, to_z, of_z, w64}
use Rattle.std.proofs.lemmas.Grind.{common_steps}
use Rattle.lnt_ops.proofs.ShortLemmas.{prefix_signed, prefix_unsigned, none_here}
use Rattle.lnt_ops.proofs.short.short_op.Goals as goal

pub returns-in_err-short_discriminator-in-0-clause-none : goal.returns-in_err-short_discriminator-in-0-clause-none
returns-in_err-short_discriminator-in-0-clause-none c =
    rw c.from_residual.ensures (none_here _ 0 _ _ _ c.in-0.is c.if-opcode-opcode_base.false c.opcode_base.ensures.value
    c.split_at.ensures.back c.in_err-short_discriminator-in-0.ensures.none)

pub returns-in_ok-short_number-in-2-clause-some : goal.returns-in_ok-short_number-in-2-clause-some
returns-in_ok-short_number-in-2-clause-some c =
    prefix_unsigned _ _ 2 _ _ _ _ refl c.if-is_empty.ensures c.in-2.is c.if-opcode-opcode_base.false c.opcode_base.ensures.value
    c.split_at.ensures.back c.in_ok-short_number-in-2.ensures.some

pub returns-in_ok-short_number-in-4-clause-some : goal.returns-in_ok-short_number-in-4-clause-some
returns-in_ok-short_number-in-4-clause-some c =
    prefix_unsigned _ _ 4 _ _ _ _ refl c.if-is_empty.ensures c.in-4.is c.if-opcode-opcode_base.false c.opcode_base.ensures.value
    c.split_at.ensures.back c.in_ok-short_number-in-4.ensures.some

pub returns-in_ok-short_number-in-5-clause-some : goal.returns-in_ok-short_number-in-5-clause-some
returns-in_ok-short_number-in-5-clause-some c =
    prefix_unsigned _ _ 5 _ _ _ _ refl c.if-is_empty.ensures c.in-5.is c.if-opcode-opcode_base.false c.opcode_base.ensures.value
    c.split_at.ensures.back c.in_ok-short_number-in-5.ensures.some

pub returns-in_ok-by-in-3-clause-some : goal.returns-in_ok-by-in-3-clause-some
returns-in_ok-by-in-3-clause-some c =
    let same : to_z w64 (of_z w64 c.in_ok-by-in-3.by) ≡ c.in_ok-by-in-3.by = grind (arith, common_steps) in
    rw same (prefix_signed _ _ 3 _ _ _ _ _ refl c.if-is_empty.ensures c.in-3.is c.if-opcode-opcode_base.false c.opcode_base.ensures.value
    c.split_at.ensures.back c.in_ok-by-in-3.ensures.some)
