use Rattle.std.proofs.Common.{◌≡◌, map, take}
use Rattle.lnt_words.specs.Words.{position_at}
use Rattle.lnt_words.proofs.words.positions_at.Given as goal

abbrev pub invariant-loop-address : goal.invariant-loop-address
invariant-loop-address l = l.positions.items ≡ map (position_at l.op) (take l.address-index l.addresses)
