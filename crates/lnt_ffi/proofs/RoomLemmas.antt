-- Lists that are put into the first places of a room.
use Rattle.std.proofs.Common.{◌≡◌, ℕ, ◌+◌, ◌≤◌, List, ◌++◌, length, take, drop, set, arith, take-append-drop}
use Rattle.std.proofs.lemmas.Grind.{common_steps}
use Rattle.lnt_ffi.specs.Returns.{with_prefix}

pub fitting : {A : Type 0} (list room : List A) → length list ≤ length room → list ++ drop (length list) room ≡ with_prefix list room
fitting list room le = grind (arith, common_steps)

-- a room whose prefix was filled, element by element
pub filled : {A : Type 0} (list old new : List A) (count : ℕ) → count ≡ length list → count ≤ length old → take count new ≡ list
    → drop count new ≡ drop count old → new ≡ with_prefix list old
filled list old new count is le prefix behind = grind (arith, common_steps, take-append-drop count new)

-- what stands behind a place is as before
pub behind_set : {A : Type 0} (room : List A) (place : ℕ) (x : A) → drop (place + 1) (set room place x) ≡ drop (place + 1) room
behind_set room place x = grind (arith, common_steps)
