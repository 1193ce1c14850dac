use Rattle.lnt_ops.proofs.OwnedLemmas.{numbers_done}
use Rattle.lnt_ops.proofs.owned.spelled_numbers.Goals as goal

pub returns : goal.returns
returns c = rw c.new.ensures (numbers_done c.args.bytes.now c.loop-number.numbers.items c.loop-number.cursor c.in_default.field-0 c.requires
    c.loop-number.invariant c.in_default.ensures.err)
