-- Pulls one after another, and what they add after the bytes that were taken. Crates above cite these.
use Rattle.std.proofs.Common.{◌≡◌, ℕ, ◌+◌, ◌≤◌, List, [], ◌++◌, length, take, Option, IfSome, append_assoc, append-nil, arith}
use Rattle.std.proofs.Math.Seq.{take-append-add, take-append_seam, take-take}
use Rattle.std.proofs.lemmas.List.{length-append, take-append-le, length-take-le, take_all}
use Rattle.lnt_io.specs.Pulling.{Pulls, GivesMore, HasMoreThan}
use Rattle.std.proofs.lemmas.Grind.{common_steps}

-- nothing was pulled yet
pub pulls_none : (a : Option (List ℕ)) → Pulls a a []
pulls_none a = grind (arith, common_steps)

-- two pulls in a row
pub pulls_append : (a b c : Option (List ℕ)) (given more : List ℕ) → Pulls a b given → Pulls b c more → Pulls a c (given ++ more)
pulls_append a b c given more p q = grind (arith, common_steps, append_assoc)

-- one more block
pub pulls_more : (a b c : Option (List ℕ)) (taken more : List ℕ) (k : ℕ) → Pulls a b taken → GivesMore b c taken more k → Pulls a c more
pulls_more a b c taken more k p q = rw (q.joined) (pulls_append a b c taken q.given p q.pulls)

-- where nothing is left, all was given
pub pulls_all : (a b : Option (List ℕ)) (given : List ℕ) → Pulls a b given → IfSome b (λ bytes. bytes ≡ [])
    → IfSome a (λ bytes. given ≡ bytes)
pulls_all a b given p q = grind (arith, common_steps, append-nil)

-- where a source that gave some bytes has more than it may give, it had more from the start
pub more_from_start : (a b : Option (List ℕ)) (given : List ℕ) (before after : ℕ) → Pulls a b given → after + length given ≡ before
    → HasMoreThan b after → HasMoreThan a before
more_from_start a b given before after p same more = grind (arith, common_steps, length-append)

-- the prefix of the room, where one more pull wrote after the prefix that was filled
prefix_filled : (at count : ℕ) (room put post : List ℕ) → at ≤ length room → count ≤ length put
    → take (at + count) (take at room ++ (put ++ post)) ≡ take at room ++ take count put
prefix_filled at count room put post le fits = grind (arith, common_steps, length-take-le, take-append-add, take-append-le)

pub pulls_filled : (a b c : Option (List ℕ)) (at count : ℕ) (room put post : List ℕ) → Pulls a b (take at room)
    → Pulls b c (take count put) → at ≤ length room → count ≤ length put
    → Pulls a c (take (at + count) (take at room ++ (put ++ post)))
pulls_filled a b c at count room put post p q le fits = grind (arith, common_steps, prefix_filled, pulls_append)

-- what was written after the bytes taken before, cut where it ends
pub written_after : (k n : ℕ) (taken put post tail : List ℕ) → k ≤ length put → length taken + k ≤ n
    → take (length taken + k) (take n (taken ++ (put ++ post) ++ tail)) ≡ taken ++ take k put
written_after k n taken put post tail le room = grind (arith, common_steps, take-take, append_assoc, take-append-add, take-append-le)

pub gives_written : (old new : Option (List ℕ)) (k n start : ℕ) (taken lent put post tail more : List ℕ) → Pulls old new (take k put)
    → start ≡ length taken → take start lent ≡ taken → k ≤ length put → start + k ≤ n
    → more ≡ take (start + k) (take n (take start lent ++ (put ++ post) ++ tail)) → GivesMore old new taken more k
gives_written old new k n start taken lent put post tail more pulls at same le room whole =
    grind (arith, common_steps, length-take-le, written_after)

-- the bytes before the room that was made are those taken before
pub prefix_kept : (start more : ℕ) (taken lent room : List ℕ) → start ≡ length taken → lent ≡ take (start + more) taken ++ room
    → take start lent ≡ taken
prefix_kept start more taken lent room at whole = grind (arith, common_steps, take_all, take-append_seam)

-- what a walk over a source cites
pub ruleset pulling = (pulls_none, pulls_more, pulls_all, more_from_start)
