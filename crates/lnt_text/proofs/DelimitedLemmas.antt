-- A number that ends before a certain byte.
use Rattle.std.proofs.Common.{◌≡◌, ◌∙◌, ℕ, ◌+◌, ◌*◌, ◌^◌, ◌%◌, ◌<◌, ◌≤◌, Bool, true, false, List, [], ◌∷◌, ◌++◌, length, length-append}
use Rattle.std.proofs.Common.{get_or, drop, append_assoc, refl, sym, ap, arith, MatchBool, ◌&&◌}
use Rattle.std.proofs.Math.Nat.{pow-le-pow_right}
use Rattle.std.proofs.lemmas.Grind.{pow_more, common_steps}
use Rattle.std.proofs.lemmas.List.{drop_more}
use Rattle.std.specs.List.{AllByRecursion}
use Rattle.lnt_text.specs.declared.radix.Radix.TheVariants.{Ten, Sixteen}
use Rattle.lnt_text.specs.Digits.{IsAddress, IsDigit, IsHexadecimalDigit, IsNumber, radix_base, digit_value, digits_value, Radix, Begins}

all_push : (P : ℕ → Type 0) (prefix : List ℕ) (b : ℕ) → AllByRecursion P prefix → P b → AllByRecursion P (prefix ++ b ∷ [])
all_push P [] b h k = (k, tt)
all_push P (a ∷ prefix) b h k = (h.0, all_push P prefix b h.1 k)

value_push : (radix value c : ℕ) (text : List ℕ) → digits_value radix value (text ++ c ∷ []) ≡ digits_value radix value text * radix
    + digit_value c
value_push radix value c [] = refl
value_push radix value c (b ∷ text) = value_push radix (value * radix + digit_value b) c text

-- In the text, the indices from `at` up to `i` hold digits of this number.
pub record HasDigits (radix : Radix) (text : List ℕ) (at i value : ℕ) : Type 0 where
  pub prefix : List ℕ
  pub joined : drop at text ≡ prefix ++ drop i text
  pub count : at + length prefix ≡ i
  pub digits : AllByRecursion (IsDigit radix) prefix
  pub value_is : value ≡ digits_value (radix_base radix) 0 prefix
  pub bound : value < radix_base radix ^ length prefix

bound_more : (radix : Radix) (value d k : ℕ) → value < radix_base radix ^ k → d < radix_base radix
    → value * radix_base radix + d < radix_base radix ^ (k + 1)
bound_more radix value d k h lt = grind (arith, common_steps, pow_more)

pub digits_more : (radix : Radix) (text : List ℕ) (at i value d more : ℕ) → i < length text → HasDigits radix text at i value
    → IsDigit radix (get_or text i 0)
    → d ≡ digit_value (get_or text i 0) → d < radix_base radix → more ≡ value * radix_base radix + d → HasDigits radix text at (i + 1) more
digits_more radix text at i value d more lt h is e small m =
    let c : ℕ = get_or text i 0 in
    let long : length (h.prefix ++ c ∷ []) ≡ length h.prefix + 1 = length-append h.prefix (c ∷ []) in
    let before = h.value_is in
    let pushed = value_push (radix_base radix) 0 c h.prefix in
    record {
      prefix = h.prefix ++ c ∷ [];
      joined =
          h.joined ∙ ap (λ (t : List ℕ). h.prefix ++ t) (drop_more text i 0 lt) ∙ sym (append_assoc h.prefix (c ∷ []) (drop (i + 1) text));
      count = omega (arith, h.count, long);
      digits = all_push (IsDigit radix) h.prefix c h.digits is;
      value_is = rw pushed (rw (sym before) (rw (sym e) m));
      bound = rw (long, m) (bound_more radix value d (length h.prefix) h.bound small);
    }

-- one more decimal digit doesn't overflow
pub room_for_digit : (text : List ℕ) (at i value : ℕ) → HasDigits Ten text at i value → i < at + 19 → value < 10 ^ 18
room_for_digit text at i value h few = grind (arith, common_steps, pow-le-pow_right)

-- one more hexadecimal digit; `before` says whether all so far were digits
pub hexadecimal_more : (text : List ℕ) (at i value worth : ℕ) (before is : Bool) → i < length text
    → (before ≡ true → i ≤ at + 16 → HasDigits Sixteen text at i value)
    → MatchBool is (IsHexadecimalDigit (get_or text i 0)) (IsHexadecimalDigit (get_or text i 0) → ⊥)
    → (IsHexadecimalDigit (get_or text i 0) → (worth ≡ digit_value (get_or text i 0)) × (worth < 16)) → (before && is) ≡ true
    → i + 1 ≤ at + 16
    → HasDigits Sixteen text at (i + 1) ((value * 16 % 2 ^ 64 + worth) % 2 ^ 64)
hexadecimal_more text at i value worth true true lt h is says e few =
    let d = h refl (omega (arith, few)) in
    let w = says is in
    let count : length d.prefix ≤ 15 = omega (arith, few, d.count) in
    let some : 0 < 16 = omega arith in
    let most : 16 ^ length d.prefix ≤ 16 ^ 15 = pow-le-pow_right some count in
    let whole : (value * 16 % 2 ^ 64 + worth) % 2 ^ 64 ≡ value * 16 + worth = omega (arith, d.bound, most, w.1) in
    digits_more Sixteen text at i value worth ((value * 16 % 2 ^ 64 + worth) % 2 ^ 64) lt d is w.0 w.1 whole
hexadecimal_more text at i value worth true false lt h is says e few = absurd (cc e)
hexadecimal_more text at i value worth false is lt h m says e few = absurd (cc e)

-- a number after `0x`
pub address_begins : (s0 s1 s2 rest : List ℕ) (n end : ℕ) → s0 ≡ 48 ∷ s1 → s1 ≡ 120 ∷ s2 → Begins (IsNumber Sixteen) s2 n end rest
    → Begins IsAddress s0 n end rest
address_begins s0 s1 s2 rest n end e f b = record {
  prefix = 48 ∷ 120 ∷ b.prefix;
  joined = e ∙ ap (λ (t : List ℕ). 48 ∷ t) f ∙ ap (λ (t : List ℕ). 48 ∷ 120 ∷ t) b.joined;
  spells = record { digits = b.prefix; written = refl; number = b.spells };
}

no_zero : (n : ℕ) → n ≡ 0 + n
no_zero n = omega arith

-- a single digit
pub digit_begins : (text rest : List ℕ) (at d end : ℕ) → at < length text → IsDigit Ten (get_or text at 0)
    → d ≡ digit_value (get_or text at 0) → d < 10
    → drop (at + 1) text ≡ end ∷ rest → Begins (IsNumber Ten) (drop at text) d end rest
digit_begins text rest at d end lt is e small f = grind (arith, common_steps, drop_more, no_zero)
