-- Bytes that are taken from a source, one pull after another.
use Rattle.std.proofs.Common.{ℕ, ◌+◌, ◌≤◌, List, ◌++◌, length, Option, sym, subst, append_assoc, arith, length-append}
use Rattle.lnt_wire.specs.declared.format.Order.{Order}
use Rattle.lnt_io.specs.Pulling.{GivesMore}
use Rattle.lnt_io.proofs.PullLaws.{pulls_none, pulls_more, more_from_start}
use Rattle.lnt_unit.specs.Spelled.{IsLeastSize}
use Rattle.lnt_unit.proofs.SizeLemmas.{least_nothing}
use Rattle.std.proofs.lemmas.Grind.{common_steps}

-- no frame that begins with more bytes is shorter than one that begins with fewer
pub least_more : (order : Order) (taken more : List ℕ) (n size : ℕ) → IsLeastSize order taken n → size ≤ n
    → IsLeastSize order (taken ++ more) size
least_more order taken more n size h le = grind (arith, common_steps, append_assoc)

-- what a block gives is still a prefix of the frame
pub least_block : (order : Order) (old new : Option (List ℕ)) (taken more : List ℕ) (k n : ℕ) → IsLeastSize order taken n
    → GivesMore old new taken more k → length taken + k ≤ n → IsLeastSize order more (length more)
least_block order old new taken more k n h g le = subst (λ (z : List ℕ). IsLeastSize order z (length z)) (sym g.joined)
    (least_more order taken g.given n (length (taken ++ g.given)) h (omega (arith, le, g.count, length-append taken g.given)))

-- what the walk over the blocks of a unit cites
pub ruleset taking = (pulls_none, pulls_more, more_from_start, least_block, least_nothing)
