use Rattle.std.proofs.Common.{arith}
use Rattle.lnt_compare.proofs.WindowLaws.{longer_from_start}
use Rattle.lnt_compare.proofs.StreamLaws.{all_taken}
use Rattle.lnt_table.proofs.any_copy.ask_table.Goals as goal

pub returns-in_err-text-clause-too_long : goal.returns-in_err-text-clause-too_long
returns-in_err-text-clause-too_long g c e =
    grind (
      arith,
      c.in_err-text.ensures.too_long,
      c.from_residual-in_err-text.ensures,
      longer_from_start _ _ _ _ _ _ _ c.in_ok-window.ensures.taken,
      e,
    )

pub returns-clause-ok : goal.returns-clause-ok
returns-clause-ok g c selection index live =
    let found = rw c.deref.ensures.value at c.in_ok-asked.ensures in
    all_taken _ _ _ _ c.in_ok-window.window c.in_ok-text.text.items _ c.in_ok-window.ensures.taken c.in_ok-text.ensures.ok
    (found selection index live)
