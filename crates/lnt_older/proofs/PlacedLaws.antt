-- Items one after another, each with its offset, and those that are left from a cursor on.
use Rattle.std.proofs.Common.{◌≡◌, ◌∙◌, ℕ, ◌+◌, ◌<◌, List, [], ◌∷◌, ◌++◌, length, length-append, refl, sym, ap, arith, append_assoc}
use Rattle.std.proofs.lemmas.List.{append-nil}
use Rattle.lnt_wire.specs.Bytes.{NoneSpelled}
use Rattle.lnt_wire.specs.Reading.{At, Reads}
use Rattle.lnt_wire.specs.declared.format.Order.{Order}
use Rattle.lnt_wire.proofs.LengthLaws.{same_rest}
use Rattle.lnt_header.specs.Joins.{PlacedFrom}
use Rattle.lnt_older.specs.Upgradable.{AreLeft}
use Rattle.std.proofs.lemmas.Grind.{common_steps}

-- one more item
pub placed_more : {A : Type 0} (Says : ℕ × A → List ℕ → Type 0) (offset : ℕ) (items : List (ℕ × A)) (bytes : List ℕ) (item : ℕ × A)
    (x : List ℕ) → PlacedFrom Says offset items bytes → item.0 ≡ offset + length bytes → Says item x
    → PlacedFrom Says offset (items ++ item ∷ []) (bytes ++ x)
placed_more Says offset [] bytes item x none at says = (x, [], omega (arith, at, ap length none), says, rw none (sym (append-nil x)), refl)
placed_more Says offset (i ∷ items) bytes item x (prefix, back, here, so, joined, rest) at says = (
  prefix,
  back ++ x,
  here,
  so,
  rw joined (append_assoc prefix back x),
  placed_more Says (offset + length prefix) items back item x rest
      (omega (arith, at, ap length joined, length-append prefix back)) says,
)

-- the items after the first one, whose bytes are these
placed_past : {A : Type 0} (Says : ℕ × A → List ℕ → Type 0) (offset : ℕ) (items : List (ℕ × A)) (bytes x rest : List ℕ) → 0 < length x
    → ((item : ℕ × A) (y m : List ℕ) → Says item y → y ++ m ≡ x ++ rest → y ≡ x) → PlacedFrom Says offset items bytes
    → bytes ≡ x ++ rest → (others : List (ℕ × A)) × PlacedFrom Says (offset + length x) others rest
placed_past Says offset [] bytes x rest some once none whole =
    absurd (omega (arith, some, ap length none, ap length whole, length-append x rest))
placed_past Says offset (item ∷ items) bytes x rest some once (prefix, back, here, so, joined, others) whole =
    let same = once item prefix back so (sym joined ∙ whole) in
    (items, rw (same, same_rest prefix x back rest same (sym joined ∙ whole)) at others)

-- items before bytes that no item begins have the same bytes
pub placed_once : {A : Type 0} (Says : ℕ × A → List ℕ → Type 0) → ((i j : ℕ × A) (x y r s : List ℕ) → Says i x → Says j y
    → x ++ r ≡ y ++ s → x ≡ y) → (k l : ℕ) (items others : List (ℕ × A)) (x y r s : List ℕ) → PlacedFrom Says k items x
    → PlacedFrom Says l others y → x ++ r ≡ y ++ s → NoneSpelled Says r → NoneSpelled Says s → x ≡ y
placed_once Says once k l [] [] x y r s p q e none none' = p ∙ sym q
placed_once Says once k l [] (j ∷ others) x y r s p (prefix, back, here, so, joined, rest) e none none' =
    absurd (none j prefix (back ++ s) so (simp (p, joined, append_assoc) at (sym e)))
placed_once Says once k l (i ∷ items) [] x y r s (prefix, back, here, so, joined, rest) q e none none' =
    absurd (none' i prefix (back ++ r) so (simp (q, joined, append_assoc) at e))
placed_once Says once k l (i ∷ items) (j ∷ others) x y r s (prefix, back, here, so, joined, rest)
    (first, after, there, also, whole, more) e none none' =
    let all : prefix ++ (back ++ r) ≡ first ++ (after ++ s) = simp (joined, whole, append_assoc) at e in
    let same : prefix ≡ first = once i j prefix first (back ++ r) (after ++ s) so also all in
    let past : back ≡ after = placed_once Says once (k + length prefix) (l + length first) items others back after r s rest more
    (same_rest prefix first (back ++ r) (after ++ s) same all) none none' in
    rw (joined, whole, same, past) refl

-- A unit after some items, whose bytes every item there has, is the next of other items.
pub placed_at : {A : Type 0} (Says Also : ℕ × A → List ℕ → Type 0) → ((i j : ℕ × A) (x y r s : List ℕ) → Says i x → Also j y
    → x ++ r ≡ y ++ s → x ≡ y) → (k l : ℕ) (items others : List (ℕ × A)) (x y unit r s : List ℕ) → PlacedFrom Says k items x
    → PlacedFrom Also l others y → ((j : ℕ × A) (z m : List ℕ) → Also j z → z ++ m ≡ unit ++ r → z ≡ unit)
    → x ++ (unit ++ r) ≡ y ++ s → length x < length y → (j : ℕ × A) × (j.0 ≡ l + length x) × Also j unit
placed_at Says Also once k l items [] x y unit r s p q here e lt = absurd (omega (arith, lt, ap length q))
placed_at Says Also once k l [] (j ∷ others) x y unit r s p (first, after, there, also, whole, more) here e lt =
    let same = here j first (after ++ s) also (simp (p, whole, append_assoc) at (sym e)) in
    (j, omega (arith, there, ap length p), rw same at also)
placed_at Says Also once k l (i ∷ items) (j ∷ others) x y unit r s (prefix, back, at, so, joined, rest)
    (first, after, there, also, whole, more) here e lt =
    let all : prefix ++ (back ++ (unit ++ r)) ≡ first ++ (after ++ s) = simp (joined, whole, append_assoc) at e in
    let same : prefix ≡ first = once i j prefix first (back ++ (unit ++ r)) (after ++ s) so also all in
    let shorter : length back < length after =
    omega (arith, lt, ap length joined, ap length whole, ap length same, length-append prefix back, length-append first after) in
    let found = placed_at Says Also once (k + length prefix) (l + length first) items others back after unit r s rest more here
    (same_rest prefix first (back ++ (unit ++ r)) (after ++ s) same all) shorter in
    (found.0, omega (arith, found.1, ap length joined, ap length same, length-append prefix back), found.2)

module _ {A : Type 0} (Says : Order → ℕ × A → List ℕ → Type 0) where
  -- at the beginning all are left
  pub left_all : (order : Order) (bytes : List ℕ) (at : At) → ((items : List (ℕ × A)) × PlacedFrom (Says order) 0 items bytes)
      → at.rest ≡ bytes → at.place ≡ 0 → at.order ≡ order → AreLeft Says at
  left_all order bytes at (items, placed) rest place ordered = (items, rw (ordered, rest, place) placed)

  -- after a read of bytes with which every item there begins
  pub left_after : {V : Type 0} (Spells : V → List ℕ → Type 0) (v : V) (at next : At) (r : Reads Spells v at next) → 0 < length r.spelling
      → ((item : ℕ × A) (y m : List ℕ) → Says at.order item y → y ++ m ≡ r.spelling ++ next.rest → y ≡ r.spelling)
      → AreLeft Says at → AreLeft Says next
  left_after Spells v at next r some once (items, placed) = grind (arith, common_steps, placed_past)
