-- Lists of values whose kind is a code have one spelling each.
use Rattle.std.proofs.Common.{◌≡◌, ℕ, List, [], ◌∷◌, ◌++◌, length, refl, sym, ◌∙◌, arith}
use Rattle.lnt_wire.specs.Bytes.{IsCode}
use Rattle.lnt_wire.proofs.CodeLaws.{peel, same_join}
use Rattle.lnt_header.specs.Joins.{Each, Several}

-- lists of as many values have one spelling
pub same_each : {X : Type 0} {P : X → List ℕ → Type 0} → IsCode P → (us vs : List X) (x y r s : List ℕ) → length us ≡ length vs
    → Each P us x → Each P vs y → x ++ r ≡ y ++ s → (us ≡ vs) × (x ≡ y)
same_each code [] [] x y r s len p q e = (refl, p ∙ sym q)
same_each code [] (v ∷ vs) x y r s len p q e = absurd (omega arith)
same_each code (u ∷ us) [] x y r s len p q e = absurd (omega arith)
same_each code (u ∷ us) (v ∷ vs) x y r s len p q e =
    let one = peel code u v x y r s p q e in
    let n : length us ≡ length vs = omega arith in
    let rest = same_each code us vs p.back q.back r s n p.second q.second one.past in
    let heads : u ≡ v = one.value in
    let tails : us ≡ vs = rest.0 in
    (cc, same_join x y p q one.bytes rest.1)

pub several_code : {X : Type 0} (P : X → List ℕ → Type 0) (n : ℕ) → IsCode P → IsCode (Several n P)
several_code P n code = record { one = λ us vs x y r s p q e. same_each code us vs x y r s (p.0 ∙ sym q.0) p.1 q.1 e }
