-- Kinds of spelling of which none is the prefix of another, and each spells one value. Crates above cite these.
use Rattle.std.proofs.Common.{◌≡◌, ℕ, List, [], ◌∷◌, ◌++◌, length, sym, ap, ◌∙◌, append_assoc, arith}
use Rattle.lnt_wire.specs.Bytes.{TakenBytes, Then, IsCode}
use Rattle.lnt_wire.specs.Leb128.{IsLeb, UnsignedLeb, SignedLeb}
use Rattle.lnt_wire.specs.Numbers.{NumberBytes, Order}
use Rattle.lnt_wire.proofs.LengthLaws.{IsWidth, length-number_bytes, same_prefix, same_rest}
use Rattle.std.proofs.lemmas.Grind.{common_steps}

-- ---- numbers in groups of seven bits

-- two spellings that begin the same bytes are one
pub same_leb : (x y r s : List ℕ) → IsLeb x → IsLeb y → x ++ r ≡ y ++ s → x ≡ y
same_leb [] y r s p q e = absurd p
same_leb (a ∷ []) [] r s p q e = absurd q
same_leb (a ∷ []) (b ∷ []) r s p q e = let heads : a ≡ b = cc in cc
same_leb (a ∷ []) (b ∷ c ∷ y) r s p q e = let heads : a ≡ b = cc in absurd (omega arith)
same_leb (a ∷ c ∷ x) [] r s p q e = absurd q
same_leb (a ∷ c ∷ x) (b ∷ []) r s p q e = let heads : a ≡ b = cc in absurd (omega arith)
same_leb (a ∷ c ∷ x) (b ∷ d ∷ y) r s p q e =
    let heads : a ≡ b = cc in
    let tails : (c ∷ x) ++ r ≡ (d ∷ y) ++ s = cc in
    let rest : c ∷ x ≡ d ∷ y = same_leb (c ∷ x) (d ∷ y) r s p.1 q.1 tails in
    cc

pub unsigned_code : IsCode UnsignedLeb
unsigned_code = grind (arith, common_steps, same_leb)

pub signed_code : IsCode SignedLeb
signed_code = grind (arith, common_steps, same_leb)

-- ---- numbers of fixed width

pub number_code : (order : Order) (size : ℕ) → IsWidth size → IsCode (NumberBytes order size)
number_code order size width = record {
  one = λ m n x y r s p q e.
      let len : length x ≡ length y =
      ap length p.spelled ∙ length-number_bytes order size m ∙ sym (length-number_bytes order size n) ∙ ap length (sym q.spelled) in
      let same : x ≡ y = same_prefix x y r s len e in
      (width.same order m n p.fits q.fits (sym p.spelled ∙ same ∙ q.spelled), same);
}

-- ---- bytes that stand for themselves

pub taken_code : (count : ℕ) → IsCode (TakenBytes count)
taken_code count = grind (arith, common_steps, same_prefix)

-- ---- joins

-- What is so of two joins that begin with spellings of a kind that is a code, where more bytes make them the same: the prefixes spell
-- one value and are the same, and so is what follows them.
pub record Peeled {X : Type 0} (u v : X) (prefix prefix' rest rest' : List ℕ) : Type 0 where
  pub value : u ≡ v
  pub bytes : prefix ≡ prefix'
  pub past : rest ≡ rest'

-- the prefixes need not be of one kind
pub peel_by : {X : Type 0} {P P' Q Q' : List ℕ → Type 0} (u v : X) (x y r s : List ℕ)
    → ((a b c d : List ℕ) → P a → P' b → a ++ c ≡ b ++ d → (u ≡ v) × (a ≡ b))
    → (t : Then P Q x) → (t' : Then P' Q' y) → x ++ r ≡ y ++ s → Peeled u v t.prefix t'.prefix (t.back ++ r) (t'.back ++ s)
peel_by u v x y r s one t t' e = grind (arith, common_steps, append_assoc, same_rest)

pub peel : {X : Type 0} {P : X → List ℕ → Type 0} {Q Q' : List ℕ → Type 0} → IsCode P → (u v : X) (x y r s : List ℕ)
    → (t : Then (P u) Q x) → (t' : Then (P v) Q' y) → x ++ r ≡ y ++ s → Peeled u v t.prefix t'.prefix (t.back ++ r) (t'.back ++ s)
peel code u v x y r s t t' e = peel_by u v x y r s (λ a b c d. code.one u v a b c d) t t' e

-- two joins of the same parts are the same
pub same_join : {P Q P' Q' : List ℕ → Type 0} (x y : List ℕ) → (t : Then P Q x) → (t' : Then P' Q' y) → t.prefix ≡ t'.prefix
    → t.back ≡ t'.back → x ≡ y
same_join x y t t' p q = let a = t.joined in let b = t'.joined in cc (a, b, p, q)
