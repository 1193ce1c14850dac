use Rattle.std.proofs.Common.{arith, rules}
use Rattle.std.proofs.lemmas.Grind.{common_steps}
use Rattle.lnt_text.proofs.ReadLemmas.{too_large}
use Rattle.lnt_text.proofs.read.number.Goals as goal

pub returns-in_err-checked_mul : goal.returns-in_err-checked_mul
returns-in_err-checked_mul c =
    rw c.from_residual-in_err-checked_mul.ensures
    (too_large _ _ _ _ _ c.loop-byte-test.true c.loop-byte.invariant c.in_ok-digit.ensures.1 (search rules))

pub returns-in_err-value : goal.returns-in_err-value
returns-in_err-value c =
    rw c.from_residual-in_err-value.ensures
    (too_large _ _ _ _ _ c.loop-byte-test.true c.loop-byte.invariant c.in_ok-digit.ensures.1 (search rules))

pub loop-byte-preserved : goal.loop-byte-preserved
loop-byte-preserved c = grind (arith, common_steps)

pub returns : goal.returns
returns c = grind (arith, common_steps)

pub returns-in_err-digit : goal.returns-in_err-digit
returns-in_err-digit c = grind (arith, common_steps)
