-- What a call that pulls from a source says of it where it stops. The source is old before the call and new after it.
use Rattle.std.specs.Prelude.{◌≡◌, ◌≢◌, ℕ, ◌+◌, ◌<◌, ◌⊎◌, Bool, IsTrue, false, List, Option, Result, Err, IsErrOf}
use Rattle.lnt_io.specs.declared.source.Source.{Ghosts}
use Rattle.lnt_io.specs.Pulling.{HasMoreThan}

-- The source failed once if the call stopped with stop, and else not. It is of the same file as before.
pub record CountsFailure {R : Type 0} (source : Ghosts R) (old new : R) {C E : Type 0} (answer : Result C E) (stop : E) : Type 0 where
  pub read : IsErrOf answer stop → source.failures new ≡ source.failures old + 1
  pub no_failure : answer ≢ Err stop → source.failures new ≡ source.failures old
  pub name : source.name new ≡ source.name old

-- A source was found to have more bytes than the `left` that it may give. If its bytes are known, they are more than these.
pub record IsFoundTooLong (found : Bool) (remaining : Option (List ℕ)) (left : ℕ) : Type 0 where
  pub is_found : IsTrue found
  pub more : HasMoreThan remaining left

-- The source is too long if the call stopped with stop.
abbrev pub IsTooLongOn : {R : Type 0} → Ghosts R → R → R → {C E : Type 0} → Result C E → E → Type 0
IsTooLongOn source old new answer stop = IsErrOf answer stop → IsFoundTooLong (source.too_long new) (source.remaining old) (source.left old)

-- A read of the source failed, or it was found too long. So it didn't give all its bytes.
abbrev pub IsCutShort : {R : Type 0} → Ghosts R → R → Type 0
IsCutShort source now = (0 < source.failures now) ⊎ IsTrue (source.too_long now)

-- ---- of two sources, the second of which was before the call and is after it

-- One of them failed once if the call stopped with stop, and else neither. Each is of the same file as before.
pub record CountsFailures {R T : Type 0} (first : Ghosts R) (old new : R) (second : Ghosts T) (was is : T) {C E : Type 0}
    (answer : Result C E) (stop : E) : Type 0 where
  pub either : IsErrOf answer stop → first.failures new + second.failures is ≡ first.failures old + second.failures was + 1
  pub first_fine : answer ≢ Err stop → first.failures new ≡ first.failures old
  pub second_fine : answer ≢ Err stop → second.failures is ≡ second.failures was
  pub first_name : first.name new ≡ first.name old
  pub second_name : second.name is ≡ second.name was

-- One of them is too long if the call stopped with stop: the first, or the second where the first isn't.
abbrev pub IsEitherTooLongOn : {R T : Type 0} → Ghosts R → R → R → Ghosts T → T → T → {C E : Type 0} → Result C E → E → Type 0
IsEitherTooLongOn first old new second was is answer stop = IsErrOf answer stop
    → IsFoundTooLong (first.too_long new) (first.remaining old) (first.left old)
    ⊎ (IsFoundTooLong (second.too_long is) (second.remaining was) (second.left was) × (first.too_long new ≡ false))
