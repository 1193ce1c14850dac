-- What pulls do to the bytes from a source. A source's bytes needn't be known: then they are `None`, and nothing is claimed.
use Rattle.std.specs.Prelude.{◌≡◌, ℕ, ◌<◌, ◌⊎◌, Bool, IsTrue, List, [], ◌++◌, length, Option, Some, None, IfSome}

-- The bytes that the source had (old) are those given, followed by those that it still has (new).
abbrev pub Pulls : Option (List ℕ) → Option (List ℕ) → List ℕ → Type 0
Pulls None new given = Unit {0}
Pulls (Some old) None given = ⊥
Pulls (Some old) (Some new) given = old ≡ given ++ new

-- The source gave k bytes more, which were added after those that were taken before (more).
pub record GivesMore (old new : Option (List ℕ)) (taken more : List ℕ) (k : ℕ) : Type 0 where
  pub given : List ℕ
  pub count : length given ≡ k
  pub joined : more ≡ taken ++ given
  pub pulls : Pulls old new given

-- The source has no bytes left, or has more than it may give.
abbrev pub IsAtEnd : Option (List ℕ) → Bool → Type 0
IsAtEnd remaining too_long = IfSome remaining (λ bytes. bytes ≡ []) ⊎ IsTrue too_long

-- The bytes that are left are more than count.
abbrev pub HasMoreThan : Option (List ℕ) → ℕ → Type 0
HasMoreThan remaining count = IfSome remaining (λ bytes. count < length bytes)
