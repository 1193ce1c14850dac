use Rattle.std.proofs.Common.{◌∙◌, ◌<◌, length, ap, arith, sym}
use Rattle.std.proofs.lemmas.Bool.{eqb-false}
use Rattle.lnt_older.proofs.FileZeroLemmas.{named_next}
use Rattle.lnt_older.proofs.rows.judge_rows.Goals as goal

pub next_zero_row-requires-clause-next : goal.next_zero_row-requires-clause-next
next_zero_row-requires-clause-next c =
    let at = c.loop-cursor.cursor in
    let some : 0 < length at.rest = omega
    (arith, eqb-false _ _ (sym c.is_empty.ensures ∙ c.loop-cursor-test.true), ap length c.rest.ensures) in
    named_next c.args.order c.args.address_size c.args.bytes.now at c.loop-cursor.invariant some
