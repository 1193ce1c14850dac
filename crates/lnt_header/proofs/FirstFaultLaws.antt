-- Where what is joined from parts has a fault, it isn't spelled, and its first fault is one. Crates above cite these.
use Rattle.std.proofs.Common.{◌≡◌, ℕ, List, [], ◌∷◌, ◌++◌, sym, ap, ◌∙◌, append_assoc, arith}
use Rattle.lnt_wire.specs.Bytes.{IsCode, NoneSpelled}
use Rattle.lnt_wire.specs.declared.fault.Reason.{Reason}
use Rattle.lnt_wire.proofs.CodeLaws.{peel}
use Rattle.lnt_wire.proofs.FieldFaultLaws.{IsOneFieldFault}
use Rattle.lnt_wire.proofs.LengthLaws.{same_rest}
use Rattle.lnt_header.specs.FieldFaults.{FirstOf, FirstOfSeveral}
use Rattle.lnt_header.specs.FieldFaults.FirstOf.{first, second}
use Rattle.lnt_header.specs.FieldFaults.FirstOfSeveral.{next}
use Rattle.lnt_header.specs.Joins.{Both, Each, Several}
use Rattle.lnt_header.proofs.ReaderLaws.{none_first, none_second, none_several}
use Rattle.std.proofs.lemmas.Grind.{common_steps}

-- Faults that say no two things of the same bytes: one reason, at one place.
abbrev pub AreOne : (Reason → List ℕ → List ℕ → Type 0) → Type 0
AreOne IsSo =
    (reason other : Reason) (before before' left left' : List ℕ) → IsSo reason before left → IsSo other before' left'
    → before ++ left ≡ before' ++ left'
    → (reason ≡ other) × (before ≡ before')

-- The same, and no value begins bytes that have such a fault.
pub record IsOneFault {X : Type 0} (Spells : X → List ℕ → Type 0) (IsSo : Reason → List ℕ → List ℕ → Type 0) : Type 0 where
  pub none : (reason : Reason) (before left : List ℕ) → IsSo reason before left → NoneSpelled Spells (before ++ left)
  pub one : AreOne IsSo

-- the fault of a field, which stands where the field begins
abbrev pub IsHere : (Reason → List ℕ → Type 0) → Reason → List ℕ → List ℕ → Type 0
IsHere IsSo reason before left = (before ≡ []) × IsSo reason left

pub field_fault : {X : Type 0} (Spells : X → List ℕ → Type 0) (IsSo : Reason → List ℕ → Type 0) → IsOneFieldFault Spells IsSo
    → IsOneFault Spells (IsHere IsSo)
field_fault Spells IsSo field = grind (arith, common_steps)

-- the same fault by another name
pub fault_as : {X : Type 0} (P : X → List ℕ → Type 0) (IsSo IsAlso : Reason → List ℕ → List ℕ → Type 0)
    → ((reason : Reason) (before left : List ℕ) → IsAlso reason before left → IsSo reason before left) → IsOneFault P IsSo
    → IsOneFault P IsAlso
fault_as P IsSo IsAlso is fault = grind (arith, common_steps)

-- no value of one kind, since there is none of another that each such value has
pub fault_of_part : {X Y : Type 0} (P : X → List ℕ → Type 0) (Q : Y → List ℕ → Type 0) (IsSo : Reason → List ℕ → List ℕ → Type 0)
    (part : Y → X)
    → ((y : Y) (x : List ℕ) → Q y x → P (part y) x) → IsOneFault P IsSo → IsOneFault Q IsSo
fault_of_part P Q IsSo part is fault = grind (arith, common_steps)

-- ---- a value, and then one whose kind it decides

module _ {X : Type 0} (P : X → List ℕ → Type 0) (OfFirst : Reason → List ℕ → List ℕ → Type 0)
    (OfSecond : X → Reason → List ℕ → List ℕ → Type 0) (code : IsCode P) where
  -- a fault of the first where the first is there, and the second has a fault
  abbrev pub AreApart : Type 0
  AreApart =
      (reason other : Reason) (x : X) (before left prefix past left' : List ℕ) → OfFirst reason before left → P x prefix
      → OfSecond x other past left'
      → before ++ left ≡ prefix ++ (past ++ left') → ⊥

  after_first : (before prefix past left : List ℕ) → before ≡ prefix ++ past → before ++ left ≡ prefix ++ (past ++ left)
  after_first before prefix past left e = ap (λ (z : List ℕ). z ++ left) e ∙ append_assoc prefix past left

  -- the first fault is one
  pub first_one : AreOne OfFirst → AreApart → ((x : X) → AreOne (OfSecond x)) → AreOne (FirstOf P OfFirst OfSecond)
  first_one firsts apart seconds reason other before before' left left' h k e = grind (arith, common_steps, after_first, same_rest)

  -- where the first part's faults leave none of it spelled
  pub first_of : {Y : Type 0} (Q : X → Y → List ℕ → Type 0) → IsOneFault P OfFirst → ((x : X) → IsOneFault (Q x) (OfSecond x))
      → IsOneFault (Both P Q) (FirstOf P OfFirst OfSecond)
  first_of Q one_first one_second = record {
    none = λ reason before left h. elim h [
      | first k ↦ none_first P Q (before ++ left) (one_first.none reason before left k)
      | second x prefix past p joined k ↦
          none_second P Q code x prefix (before ++ left) (past ++ left) p (after_first before prefix past left joined)
          ((one_second x).none reason past left k)
    ];
    one = first_one one_first.one
        (λ reason other x before left prefix past left' h p k e. one_first.none reason before left h x prefix (past ++ left') p (sym e))
        (λ x. (one_second x).one);
  }

-- ---- values of one kind

module _ {X : Type 0} (P : X → List ℕ → Type 0) (IsSo : Reason → List ℕ → List ℕ → Type 0) (code : IsCode P) (one : IsOneFault P IsSo) where
  -- no value stands where there is a fault of one
  none_here : (y : X) (ys : List X) (prefix rest before left : List ℕ) (reason : Reason) → IsSo reason before left → Each P (y ∷ ys) prefix
      → before ++ left ≡ prefix ++ rest → ⊥
  none_here y ys prefix rest before left reason h q e = grind (arith, common_steps, append_assoc)

  -- after values that are there the fault of the next is one
  pub each_one : (xs ys : List X) (reason other : Reason) (prefix prefix' past past' left left' : List ℕ) → Each P xs prefix
      → Each P ys prefix' → IsSo reason past left → IsSo other past' left'
      → prefix ++ (past ++ left) ≡ prefix' ++ (past' ++ left') → (reason ≡ other) × (prefix ++ past ≡ prefix' ++ past')
  each_one [] [] reason other prefix prefix' past past' left left' p q h k e =
      let found =
      one.one reason other past past' left left' h k
      (ap (λ (z : List ℕ). z ++ (past ++ left)) (sym p) ∙ e ∙ ap (λ (z : List ℕ). z ++ (past' ++ left')) q) in
      (found.0, ap (λ (z : List ℕ). z ++ past) p ∙ found.1 ∙ ap (λ (z : List ℕ). z ++ past') (sym q))
  each_one [] (y ∷ ys) reason other prefix prefix' past past' left left' p q h k e =
      absurd (none_here y ys prefix' (past' ++ left') past left reason h q (ap (λ (z : List ℕ). z ++ (past ++ left)) (sym p) ∙ e))
  each_one (x ∷ xs) [] reason other prefix prefix' past past' left left' p q h k e =
      absurd (none_here x xs prefix (past ++ left) past' left' other k p (ap (λ (z : List ℕ). z ++ (past' ++ left')) (sym q) ∙ sym e))
  each_one (x ∷ xs) (y ∷ ys) reason other prefix prefix' past past' left left' p q h k e =
      let head = peel code x y prefix prefix' (past ++ left) (past' ++ left') p q e in
      let rest = each_one xs ys reason other p.back q.back past past' left left' p.second q.second h k head.past in
      let before : prefix ++ past ≡ p.prefix ++ (p.back ++ past) =
      ap (λ (z : List ℕ). z ++ past) p.joined ∙ append_assoc p.prefix p.back past in
      let before' : prefix' ++ past' ≡ q.prefix ++ (q.back ++ past') =
      ap (λ (z : List ℕ). z ++ past') q.joined ∙ append_assoc q.prefix q.back past' in
      (rest.0, before ∙ ap (λ (z : List ℕ). z ++ (p.back ++ past)) head.bytes ∙ ap (λ (z : List ℕ). q.prefix ++ z) rest.1 ∙ sym before')

  -- the same of as many values as a count says
  several_one : (n : ℕ) → AreOne (FirstOfSeveral n P IsSo)
  several_one n reason other before before' left left' (next xs prefix past lt each joined h)
      (next ys prefix' past' lt' each' joined' k) e =
      grind (arith, common_steps, each_one, append_assoc)

  pub several_of : (n : ℕ) → IsOneFault (Several n P) (FirstOfSeveral n P IsSo)
  several_of n = record {
    none = λ reason before left h. elim h [
      | next xs prefix past lt each joined k ↦
          none_several P n xs prefix (past ++ left) (before ++ left) code each lt
          (ap (λ (z : List ℕ). z ++ left) joined ∙ append_assoc prefix past left) (one.none reason past left k)
    ];
    one = several_one n;
  }
