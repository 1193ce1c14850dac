-- The fields of a record, by column.
use Rattle.std.proofs.Common.{◌≡◌, ℕ, ◌+◌, ◌<◌, ◌≤◌, List, [], Bool, get_or, length, sym, subst, arith, ⊎_elim}
use Rattle.std.proofs.lemmas.Bool.{cases_lt}
use Rattle.lnt_text.specs.Digits.{IsAddress, IsDecimal}
use Rattle.lnt_records.specs.Faults.{IsFaultyColumn}
use Rattle.lnt_records.specs.Progress.{AreSoundBefore, IsColumnOf}
use Rattle.lnt_records.specs.Table.{Fields, IsFlag, IsOfColumn, IsOfKind, Kind, address, decimal, flag}

of_kind : (columns : List Kind) (kind : Kind) (fields : Fields) (i : ℕ) → IsColumnOf columns kind i → IsOfKind kind (get_or fields i [])
    → IsOfColumn columns fields i
of_kind columns kind fields i e h = subst (λ (k : Kind). IsOfKind k (get_or fields i [])) (sym e) h

not_of_kind : (columns : List Kind) (kind : Kind) (fields : Fields) (i : ℕ) → IsColumnOf columns kind i
    → (IsOfKind kind (get_or fields i []) → ⊥) → IsOfColumn columns fields i → ⊥
not_of_kind columns kind fields i e h s = h (subst (λ (k : Kind). IsOfKind k (get_or fields i [])) e s)

pub sound_more : (columns : List Kind) (fields : Fields) (i : ℕ) → AreSoundBefore columns fields i → IsOfColumn columns fields i
    → AreSoundBefore columns fields (i + 1)
sound_more columns fields i before s k lt =
    ⊎_elim (λ (h : k < i). before k h) (λ (h : i ≤ k). subst (IsOfColumn columns fields) (same h) s) (cases_lt k i)
  where
    same : i ≤ k → i ≡ k
    same h = omega (arith, h, lt)

pub sound_address : (columns : List Kind) (fields : Fields) (i n : ℕ) → IsColumnOf columns address i → AreSoundBefore columns fields i
    → IsAddress (get_or fields i []) n → AreSoundBefore columns fields (i + 1)
sound_address columns fields i n e before h = sound_more columns fields i before (of_kind columns address fields i e (n, h))

pub sound_decimal : (columns : List Kind) (fields : Fields) (i n : ℕ) → IsColumnOf columns decimal i → AreSoundBefore columns fields i
    → IsDecimal (get_or fields i []) n → AreSoundBefore columns fields (i + 1)
sound_decimal columns fields i n e before h = sound_more columns fields i before (of_kind columns decimal fields i e (n, h))

pub sound_flag : (columns : List Kind) (fields : Fields) (i : ℕ) (on : Bool) → IsColumnOf columns flag i → AreSoundBefore columns fields i
    → IsFlag (get_or fields i []) on → AreSoundBefore columns fields (i + 1)
sound_flag columns fields i on e before h = sound_more columns fields i before (of_kind columns flag fields i e (on, h))

pub no_address : (columns : List Kind) (fields : Fields) (i : ℕ) → i < length fields → IsColumnOf columns address i
    → AreSoundBefore columns fields i → ((n : ℕ) → IsAddress (get_or fields i []) n → ⊥) → IsFaultyColumn columns fields i
no_address columns fields i lt e before h =
    record { there = lt; before = before; faulty = not_of_kind columns address fields i e (λ k. h k.0 k.1) }

pub no_decimal : (columns : List Kind) (fields : Fields) (i : ℕ) → i < length fields → IsColumnOf columns decimal i
    → AreSoundBefore columns fields i → ((n : ℕ) → IsDecimal (get_or fields i []) n → ⊥) → IsFaultyColumn columns fields i
no_decimal columns fields i lt e before h =
    record { there = lt; before = before; faulty = not_of_kind columns decimal fields i e (λ k. h k.0 k.1) }

pub no_flag : (columns : List Kind) (fields : Fields) (i : ℕ) → i < length fields → IsColumnOf columns flag i
    → AreSoundBefore columns fields i → ((on : Bool) → IsFlag (get_or fields i []) on → ⊥) → IsFaultyColumn columns fields i
no_flag columns fields i lt e before h =
    record { there = lt; before = before; faulty = not_of_kind columns flag fields i e (λ k. h k.0 k.1) }
