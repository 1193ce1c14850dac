use Rattle.std.proofs.Common.{◌≡◌, ◌∙◌, true, length, sym, ap, arith, rules, is_ok, eqb-true}
use Rattle.lnt_older.proofs.SectionLemmas.{five_passed, older_found, older_long, older_passed}
use Rattle.lnt_older.proofs.section.older_units.Goals as goal

pub loop-cursor-preserved-in-Ok-Five : goal.loop-cursor-preserved-in-Ok-Five
loop-cursor-preserved-in-Ok-Five c = search (rules, five_passed)

pub loop-cursor-smaller : goal.loop-cursor-smaller
loop-cursor-smaller c = search (rules, older_long)

pub loop-cursor-preserved : goal.loop-cursor-preserved
loop-cursor-preserved c =
    let good : is_ok c.push.result ≡ true = search rules in
    let read = rw c.in-Ok-Older.field-0-is at c.in-Ok-Older.ensures.ok in
    older_passed c.args.order c.args.bytes.now c.loop-cursor.cursor c.take_any_unit.new.cursor c.loop-cursor.older.items
    c.push.new.self.items c.place-offset.result c.in-Ok-Older.field-0-0 c.loop-cursor.invariant read c.place-offset.ensures.value
    (rw good at c.push.ensures.items)

pub returns-clause-ok : goal.returns-clause-ok
returns-clause-ok c = older_found c.args.order c.args.bytes.now c.loop-cursor.cursor c.loop-cursor.older.items c.loop-cursor.invariant
    (omega (arith, eqb-true _ _ (sym c.is_empty.ensures ∙ c.loop-cursor-test.false), ap length c.rest.ensures))
