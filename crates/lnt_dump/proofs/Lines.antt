-- Lines that are counted, and pieces of hexadecimal digits.
use Rattle.std.proofs.lemmas.Grind.{common_steps}
use Rattle.std.proofs.Common.{◌≡◌, ◌∙◌, ℕ, ◌+◌, ◌<◌, List, [], ◌∷◌, ◌++◌, length, Option, Result, Ok, Err, OnOk}
use Rattle.std.proofs.Common.{refl, sym, ap, append_assoc, append-nil, take-append-drop, arith}
use Rattle.std.proofs.KnownBytes.{Appends-nil}
use Rattle.std.specs.Io.KnownBytes.{Appends}
use Rattle.std.specs.List.{IsSplitAt}
use Rattle.hex.specs.Hex.{encode_lower, encode_with}
use Rattle.lnt_dump.specs.Units.{numbered}

-- the lines with one line more
pub numbered_push : {X : Type 0} (line : ℕ → X → List ℕ) (first : ℕ) (xs : List X) (x : X)
    → numbered line first (xs ++ x ∷ []) ≡ numbered line first xs ++ line (first + length xs) x
numbered_push line first [] x = grind (arith, common_steps, append-nil)
numbered_push line first (y ∷ xs) x = grind (arith, common_steps, append_assoc, numbered_push line (first + 1) xs x)

digits_join : (table xs ys : List ℕ) → encode_with table (xs ++ ys) ≡ encode_with table xs ++ encode_with table ys
unfolding encode_with
digits_join table [] ys = refl
digits_join table (x ∷ xs) ys = let rest = digits_join table xs ys in cc rest

whole : (bytes prefix rest : List ℕ) (count : ℕ) → IsSplitAt bytes count prefix rest → bytes ≡ prefix ++ rest
whole bytes prefix rest count split = grind (arith, common_steps, take-append-drop)

-- fewer are left
pub digits_fewer : (rest piece more : List ℕ) (count : ℕ) → 0 < count → IsSplitAt rest count piece more → length more < length rest
digits_fewer rest piece more count some split = omega (arith, some, split.4)

-- The digits of the bytes before these were printed.
pub record AreDigitsTold (bytes rest : List ℕ) (old new : Option (List ℕ)) : Type 0 where
  pub prefix : List ℕ
  pub joined : bytes ≡ prefix ++ rest
  pub appended : Appends old new (encode_lower prefix)

pub digits_none : (bytes : List ℕ) (out : Option (List ℕ)) → AreDigitsTold bytes bytes out out
unfolding encode_with
digits_none bytes out = record { prefix = []; joined = refl; appended = Appends-nil out }

pub digits_more : {bytes rest : List ℕ} {old now : Option (List ℕ)} (piece more : List ℕ) (count : ℕ) (new : Option (List ℕ))
    → AreDigitsTold bytes rest old now
    → IsSplitAt rest count piece more → Appends now new (encode_lower piece) → AreDigitsTold bytes more old new
digits_more {rest = rest} {old = old} {now = now} piece more count new is split printed = record {
  prefix = is.prefix ++ piece;
  joined = is.joined ∙ ap (λ (z : List ℕ). is.prefix ++ z) (whole rest piece more count split) ∙ sym (append_assoc is.prefix piece more);
  appended = grind (arith, common_steps, digits_join);
}

pub digits_all : {A E : Type 0} (result : Result A E) {bytes rest : List ℕ} {old now : Option (List ℕ)} (new : Option (List ℕ))
    → AreDigitsTold bytes rest old now → OnOk result (Appends now new (encode_lower rest))
    → OnOk result (Appends old new (encode_lower bytes))
digits_all (Ok done) {bytes} {rest} {old} {now} new is printed = grind (arith, common_steps, digits_join)
digits_all (Err error) new is printed = printed

-- the lines of the first items begin those of all
pub numbered_prefix : {X : Type 0} (line : ℕ → X → List ℕ) (first : ℕ) (xs ys : List X)
    → (more : List ℕ) × (numbered line first (xs ++ ys) ≡ numbered line first xs ++ more)
numbered_prefix line first [] ys = (numbered line first ys, refl)
numbered_prefix line first (x ∷ xs) ys = grind (arith, common_steps, append_assoc, numbered_prefix line (first + 1) xs ys)

-- The lemmas of `print_bytes`.
pub ruleset print_bytes_lemmas = (digits_none, digits_more, digits_fewer, digits_all)
