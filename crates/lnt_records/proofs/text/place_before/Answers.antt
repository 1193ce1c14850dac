use Rattle.std.proofs.Common.{arith}
use Rattle.lnt_records.proofs.TextLemmas.{fields_again}
use Rattle.lnt_records.proofs.text.place_before.Goals as goal

pub returns-clause-written : goal.returns-clause-written
returns-clause-written c =
    fields_again c.args.unit c.args.file _ _ _ (omega (arith, c.ranges.unit.fits)) (omega (arith, c.ranges.file.fits))
    (rw (← c.turn_to.ensures.unit, ← c.turn_to.ensures.file) c.turn_to.new.self.fields) c.before-2.ensures.written
