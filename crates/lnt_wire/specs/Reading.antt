-- What a read of a cursor does, and what holds if it fails.
use Rattle.std.specs.Prelude.{ℕ, List, ◌≡◌, ◌+◌, drop, ◌≢◌, ◌<◌, ◌++◌, length}
use Rattle.lnt_wire.specs.declared.format.Order.{Order}
pub use Rattle.lnt_wire.specs.declared.fault.Fault.{Fault}
pub use Rattle.lnt_wire.specs.declared.fault.Reason.{Reason}
use Rattle.lnt_wire.specs.declared.fault.Reason.TheVariants.{Truncated, Memory}
use Rattle.lnt_wire.specs.Bytes.{NoneSpelled}

-- ---- what a contract sees of a cursor: the offset in the section of the next byte, the remaining bytes, and the byte order of numbers

pub record At : Type 0 where
  pub place : ℕ
  pub rest : List ℕ
  pub order : Order

-- ---- what a cursor does when it skips bytes. No public contract speaks of this; what a read does is `Reads`.

-- The cursor skipped the next n bytes.
pub record Skips (n : ℕ) (old new : At) : Type 0 where
  pub rest : new.rest ≡ drop n old.rest
  pub place : new.place ≡ old.place + n
  pub order : new.order ≡ old.order

-- ---- what a read does

-- The read returned v, and moved past bytes that encode it, and past no others. What follows them remains.
pub record Reads {X : Type 0} (Spells : X → List ℕ → Type 0) (v : X) (old new : At) : Type 0 where
  pub spelling : List ℕ
  pub spelled : Spells v spelling
  pub whole : old.rest ≡ spelling ++ new.rest
  pub place : new.place ≡ old.place + length spelling
  pub order : new.order ≡ old.order

-- The read of a field failed: the remaining bytes don't begin with the encoding of a value, and the reason holds for them. The
-- fault's place is the field's first byte.
pub record RefusesField {X : Type 0} (IsSo : Reason → List ℕ → Type 0) (Spells : X → List ℕ → Type 0) (old : At)
    (fault : Fault) : Type 0 where
  pub place : fault.place ≡ old.place
  pub reason : IsSo fault.reason old.rest
  pub none : NoneSpelled Spells old.rest

-- The same, except if memory ran out, which is no verdict on the bytes.
abbrev pub RefusesFieldOr : {X : Type 0} → (Reason → List ℕ → Type 0) → (X → List ℕ → Type 0) → At → Fault → Type 0
RefusesFieldOr IsSo Spells old fault = fault.reason ≢ Memory → RefusesField IsSo Spells old fault

-- The read of several fields failed: the remaining bytes don't begin with the encoding of a value. The fault's place is in
-- them: the bytes `before` precede it, and the reason holds for these and the bytes from the place on (left).
pub record Refuses {X : Type 0} (IsSo : Reason → List ℕ → List ℕ → Type 0) (Spells : X → List ℕ → Type 0) (old : At)
    (fault : Fault) : Type 0 where
  pub before : List ℕ
  pub left : List ℕ
  pub split : old.rest ≡ before ++ left
  pub place : fault.place ≡ old.place + length before
  pub reason : IsSo fault.reason before left
  pub none : NoneSpelled Spells old.rest

-- The same, except if memory ran out.
abbrev pub RefusesOr : {X : Type 0} → (Reason → List ℕ → List ℕ → Type 0) → (X → List ℕ → Type 0) → At → Fault → Type 0
RefusesOr IsSo Spells old fault = fault.reason ≢ Memory → Refuses IsSo Spells old fault

-- Fewer bytes are left than the count says.
pub record IsCutShort (count : ℕ) (reason : Reason) (bytes : List ℕ) : Type 0 where
  pub reason_is : reason ≡ Truncated
  pub short : length bytes < count
