use Rattle.lnt_records.proofs.TextLemmas.{position_again}
use Rattle.lnt_records.proofs.text.KeptPosition.copy_before.Goals as goal

pub returns-clause-written : goal.returns-clause-written
returns-clause-written c =
    let kept = c.turn_to.new.self in
    position_again c.args.position _ _ _ (rw (← c.turn_to.ensures.position) kept.fits) (rw (← c.turn_to.ensures.position) kept.fields)
    c.before-2.ensures.written
