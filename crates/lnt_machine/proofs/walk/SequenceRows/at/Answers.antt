use Rattle.std.proofs.Common.{refl}
use Rattle.lnt_machine.proofs.WalkingLemmas.{will_give}
use Rattle.lnt_machine.proofs.walk.SequenceRows.at.Goals as goal

pub returns-clause-rows : goal.returns-clause-rows
returns-clause-rows c earlier later is =
    will_give c.args.numbers.now c.args.program.now earlier later c.args.place _ c.after.ensures.numbers is c.with_numbers.ensures.header
    c.with_numbers.ensures.stands c.after.ensures.header c.after.ensures.going c.after.ensures.rest refl
