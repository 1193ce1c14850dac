-- The fields of a record, by column.
use Rattle.std.proofs.Common.{◌≡◌, ◌≢◌, ◌∙◌, ℕ, zero, suc, ◌+◌, ◌<◌, List, [], ◌∷◌, Bool, Some, None, get_or, length, sym}
use Rattle.std.proofs.Common.{Bor, true, false, refl, true≢false, not, nat_eq, ap, map, take, arith}
use Rattle.std.specs.Cmp.Lexicographic.{bytes_decides, pointwise}
use Rattle.std.proofs.lemmas.List.{get_or-map, length-map, take_more}
use Rattle.csv.specs.Records.{field_at}
use Rattle.lnt_csv.specs.Records.{Fields}

pub field_is : (fields : Fields) (i : ℕ) (f : List ℕ) → Some f ≡ field_at fields i → f ≡ get_or fields i []
unfolding field_at
field_is [] i f e = cc
field_is (g ∷ fields) zero f e = cc
field_is (g ∷ fields) (suc i) f e = field_is fields i f e

pub field_there : (fields : Fields) (i : ℕ) → i < length fields → None ≡ field_at fields i → ⊥
unfolding field_at
field_there [] i lt e = omega arith
field_there (g ∷ fields) zero lt e = cc
field_there (g ∷ fields) (suc i) lt e = field_there fields i (omega arith) e

-- ---- fields that are compared with others

abbrev texts : List (Bor (List ℕ)) → Fields
texts list = map (λ text. text.now) list

not_false : {b : Bool} → not b ≡ false → b ≡ true
not_false {b = true} e = refl
not_false {b = false} e = absurd (true≢false e)

module _ (fields : Fields) (list : List (Bor (List ℕ))) (i : ℕ) (d : Bor (List ℕ)) (lt : i < length list) where
  text_at : get_or (texts list) i [] ≡ (get_or list i d).now
  text_at = get_or-map (λ (text : Bor (List ℕ)). text.now) list i d [] lt

  pub field_apart : {field : List ℕ} {differs : Bool} → field ≡ get_or fields i []
      → differs ≡ not (pointwise nat_eq field (get_or list i d).now) → differs ≡ true → fields ≢ texts list
  field_apart {field} {differs} is compared so same =
      let here : field ≡ (get_or list i d).now = is ∙ (ap (λ (f : Fields). get_or f i []) same ∙ text_at) in
      let equal = (bytes_decides field (get_or list i d).now).1 here in
      true≢false (sym so ∙ (compared ∙ ap not equal))

  pub field_same : {field : List ℕ} {differs : Bool} → length fields ≡ length list → take i fields ≡ take i (texts list)
      → field ≡ get_or fields i [] → differs ≡ not (pointwise nat_eq field (get_or list i d).now) → differs ≡ false
      → take (i + 1) fields ≡ take (i + 1) (texts list)
  field_same {field} {differs} long before is compared so =
      let equal : pointwise nat_eq field (get_or list i d).now ≡ true = not_false (sym compared ∙ so) in
      let here : get_or fields i [] ≡ get_or (texts list) i [] =
      sym is ∙ ((bytes_decides field (get_or list i d).now).0 equal ∙ sym text_at) in
      let one = take_more fields i [] (omega (arith, lt, long)) in
      let other = take_more (texts list) i [] (omega (arith, lt, length-map list (λ (text : Bor (List ℕ)). text.now))) in
      cc
