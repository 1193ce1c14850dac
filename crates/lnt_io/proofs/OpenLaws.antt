-- Which files were opened, call by call: laws that the proofs of the crates above cite.
use Rattle.std.proofs.Common.{◌≡◌, ℕ, ◌+◌, ◌≤◌, ◌⊎◌, inl, inr, List, arith}
use Rattle.lnt_io.specs.Files.{OpensOnce, OpensOnly}

-- no file was opened
pub opens_none : (AreThese : List ℕ → Type 0) (opens : List ℕ → ℕ) → OpensOnly AreThese opens opens
opens_none AreThese opens name = inl (omega arith)

-- one call
one_of : (IsThis : Type 0) (old new more : ℕ) → (new ≤ old) ⊎ (IsThis × (new ≤ more)) → (new ≤ old) ⊎ IsThis
one_of IsThis old new more (inl kept) = inl kept
one_of IsThis old new more (inr opened) = inr opened.0

pub opens_one : (name : List ℕ) (old new : List ℕ → ℕ) → OpensOnce name old new → OpensOnly (λ other. name ≡ other) old new
opens_one name old new once other = one_of (name ≡ other) (old other) (new other) (old other + 1) (once other)

-- files of another kind too
more_of : (This That : Type 0) (old new : ℕ) → (This → That) → (new ≤ old) ⊎ This → (new ≤ old) ⊎ That
more_of This That old new wider (inl kept) = inl kept
more_of This That old new wider (inr opened) = inr (wider opened)

pub opens_wider : (These Those : List ℕ → Type 0) (old new : List ℕ → ℕ) → ((name : List ℕ) → These name → Those name)
    → OpensOnly These old new → OpensOnly Those old new
opens_wider These Those old new wider only name = more_of (These name) (Those name) (old name) (new name) (wider name) (only name)

-- one call after another
then_of : (This : Type 0) (a b c : ℕ) → (b ≤ a) ⊎ This → (c ≤ b) ⊎ This → (c ≤ a) ⊎ This
then_of This a b c (inl first) (inl second) = inl (omega arith)
then_of This a b c (inl first) (inr opened) = inr opened
then_of This a b c (inr opened) second = inr opened

pub opens_then : (These : List ℕ → Type 0) (a b c : List ℕ → ℕ) → OpensOnly These a b → OpensOnly These b c → OpensOnly These a c
opens_then These a b c first second name = then_of (These name) (a name) (b name) (c name) (first name) (second name)
