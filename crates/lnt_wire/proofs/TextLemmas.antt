-- Texts up to the first zero byte.
use Rattle.std.proofs.Common.{◌≡◌, ◌≢◌, ℕ, zero, suc, ◌+◌, ◌<◌, List, [], ◌∷◌, ◌++◌, length, get_or, take, Option, Some, None, refl, ap}
use Rattle.std.proofs.Common.{arith, option_map}
use Rattle.std.proofs.lemmas.List.{take_more}
use Rattle.lnt_wire.specs.FormBytes.{HasNoZero, up_to_zero}
use Rattle.std.proofs.lemmas.Grind.{common_steps}

no_zero_push : (prefix : List ℕ) (b : ℕ) → HasNoZero prefix → 0 < b → HasNoZero (prefix ++ b ∷ [])
no_zero_push [] b h k = (k, tt)
no_zero_push (a ∷ prefix) b h k = (h.0, no_zero_push prefix b h.1 k)

pub no_zero_more : (bytes : List ℕ) (i : ℕ) → i < length bytes → HasNoZero (take i bytes) → get_or bytes i 0 ≢ 0
    → HasNoZero (take (i + 1) bytes)
no_zero_more bytes i lt h k = grind (arith, common_steps, take_more, no_zero_push)

-- no zero byte follows
pub no_end : (bytes : List ℕ) → HasNoZero bytes → up_to_zero bytes ≡ None
no_end [] h = refl
no_end (zero ∷ bytes) h = absurd (omega (arith, h.0))
no_end (suc b ∷ bytes) h = ap (λ (o : Option (List ℕ)). option_map (λ text. suc b ∷ text) o) (no_end bytes h.1)

-- the first zero byte
pub first_end : (bytes : List ℕ) (size : ℕ) → size < length bytes → HasNoZero (take size bytes) → get_or bytes size 0 ≡ 0
    → up_to_zero bytes ≡ Some (take size bytes)
first_end [] size lt h z = absurd (omega arith)
first_end (zero ∷ bytes) zero lt h z = refl
first_end (suc b ∷ bytes) zero lt h z = absurd (omega arith)
first_end (zero ∷ bytes) (suc size) lt h z = absurd (omega (arith, h.0))
first_end (suc b ∷ bytes) (suc size) lt h z =
    ap (λ (o : Option (List ℕ)). option_map (λ text. suc b ∷ text) o) (first_end bytes size (omega arith) h.1 z)
