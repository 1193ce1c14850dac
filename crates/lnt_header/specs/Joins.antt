-- Encodings that are joined from others.
use Rattle.std.specs.Prelude.{◌≡◌, ℕ, ◌+◌, ◌<◌, List, [], ◌∷◌, ◌++◌, length, AllPairs}
use Rattle.lnt_wire.specs.Bytes.{Then}

-- one encoding for each value, in order
abbrev pub Each : {X : Type 0} → (X → List ℕ → Type 0) → List X → List ℕ → Type 0
Each Spells [] bytes = bytes ≡ []
Each Spells (x ∷ xs) bytes = Then (Spells x) (Each Spells xs) bytes

-- encodings of n values, one after the other
abbrev pub Several : {X : Type 0} → ℕ → (X → List ℕ → Type 0) → List X → List ℕ → Type 0
Several n Spells xs bytes = (length xs ≡ n) × Each Spells xs bytes

-- an encoding of a value, and after it one of another, whose kind depends on the first value
abbrev pub Both : {X Y : Type 0} → (X → List ℕ → Type 0) → (X → Y → List ℕ → Type 0) → X × Y → List ℕ → Type 0
Both First Second v bytes = Then (First v.0) (Second v.0 v.1) bytes

-- items from an offset on, each with its own offset, and its bytes
abbrev pub PlacedFrom : {A : Type 0} → (ℕ × A → List ℕ → Type 0) → ℕ → List (ℕ × A) → List ℕ → Type 0
PlacedFrom Says offset [] bytes = bytes ≡ []
PlacedFrom Says offset (item ∷ items) bytes =
    (prefix : List ℕ) × (back : List ℕ) × (item.0 ≡ offset) × Says item prefix × (bytes ≡ prefix ++ back)
    × PlacedFrom Says (offset + length prefix) items back

-- each offset is greater than all before it
abbrev pub AreRising : List ℕ → Type 0
AreRising offsets = AllPairs (λ one other. one < other) offsets
