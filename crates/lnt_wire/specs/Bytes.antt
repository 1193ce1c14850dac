-- Lists of bytes as encodings of values: how bytes are composed, not how they are read. A kind of encoding is a relation
-- between a value and the bytes that encode it; a value may have several encodings.
use Rattle.std.specs.Prelude.{◌≡◌, ℕ, ◌≤◌, List, ◌++◌, length}

-- The bytes are these, and no others.
abbrev pub Exactly : List ℕ → List ℕ → Type 0
Exactly expected bytes = bytes ≡ expected

-- These are `count` bytes, and they stand for themselves.
pub record TakenBytes (count : ℕ) (taken bytes : List ℕ) : Type 0 where
  pub count_is : length bytes ≡ count
  pub taken_is : taken ≡ bytes

-- The bytes are a prefix of the first kind, followed by a rest of the second kind.
pub record Then (First Second : List ℕ → Type 0) (bytes : List ℕ) : Type 0 where
  pub prefix : List ℕ
  pub back : List ℕ
  pub first : First prefix
  pub second : Second back
  pub joined : bytes ≡ prefix ++ back

infixr 30 ◌⨾◌
abbrev pub ◌⨾◌ : (List ℕ → Type 0) → (List ℕ → Type 0) → List ℕ → Type 0
(First ⨾ Second) bytes = Then First Second bytes

-- No prefix of the bytes encodes a value, of whatever length.
abbrev pub NoneSpelled : {X : Type 0} → (X → List ℕ → Type 0) → List ℕ → Type 0
NoneSpelled {X} Spells bytes = (x : X) (spelling more : List ℕ) → Spells x spelling → spelling ++ more ≡ bytes → ⊥

-- The bytes encode the value, and no shorter bytes do.
pub record IsShortest {X : Type 0} (Spells : X → List ℕ → Type 0) (x : X) (bytes : List ℕ) : Type 0 where
  pub spelled : Spells x bytes
  pub shortest : (other : List ℕ) → Spells x other → length bytes ≤ length other

-- The new bytes are the old ones followed by a shortest encoding of the value.
pub record Appends {X : Type 0} (Spells : X → List ℕ → Type 0) (x : X) (old new : List ℕ) : Type 0 where
  pub spelling : List ℕ
  pub spelled : IsShortest Spells x spelling
  pub joined : new ≡ old ++ spelling

-- The new bytes are the old ones followed by some more.
pub record Extends (old new : List ℕ) : Type 0 where
  pub more : List ℕ
  pub joined : new ≡ old ++ more

-- A kind of encoding in which no encoding is the prefix of another, and each encodes one value: so what is encoded is read
-- back, whatever follows. If bytes begin with an encoding x of u and with an encoding y of v, both are the same.
pub record IsCode {X : Type 0} (Spells : X → List ℕ → Type 0) : Type 0 where
  pub one : (u v : X) (x y r s : List ℕ) → Spells u x → Spells v y → x ++ r ≡ y ++ s → (u ≡ v) × (x ≡ y)
