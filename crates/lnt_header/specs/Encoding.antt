-- Why a value isn't written.
use Rattle.std.specs.Prelude.{◌≡◌, ℕ, List}
use Rattle.lnt_wire.specs.declared.put.EncodeFault.{EncodeFault}
use Rattle.lnt_wire.specs.declared.put.EncodeFault.TheVariants.{TooLarge}

-- no bytes encode the value
abbrev pub NoSpelling : {X : Type 0} → (X → List ℕ → Type 0) → X → Type 0
NoSpelling Spells x = (bytes : List ℕ) → Spells x bytes → ⊥

-- the fault is TooLarge only if no bytes encode the value
pub record RefusedPut {X : Type 0} (Spells : X → List ℕ → Type 0) (x : X) (fault : EncodeFault) : Type 0 where
  pub none : fault ≡ TooLarge → NoSpelling Spells x
