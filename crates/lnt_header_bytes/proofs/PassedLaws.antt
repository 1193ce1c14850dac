-- What lies after the first of several spellings, and that so many are there.
use Rattle.std.proofs.Common.{◌≡◌, ℕ, zero, suc, ◌+◌, ◌<◌, ◌≤◌, List, [], ◌∷◌, ◌++◌, length, take, drop, get_or, refl, sym, ap, subst, ◌∙◌}
use Rattle.std.proofs.Common.{append_assoc, drop-drop, length-drop, length-take-le, arith}
use Rattle.std.proofs.lemmas.List.{append-nil, drop_more}
use Rattle.lnt_wire.specs.Bytes.{IsCode, NoneSpelled, Then}
use Rattle.lnt_wire.proofs.CodeLaws.{peel}
use Rattle.lnt_header.specs.Joins.{Each, Several}

-- after spellings of as many values lie the others
pub others_after : {X : Type 0} (P : X → List ℕ → Type 0) → IsCode P → (us vs : List X) (x rest bytes : List ℕ) → length us ≤ length vs
    → Each P us x → Each P vs bytes → bytes ≡ x ++ rest → Each P (drop (length us) vs) rest
others_after P code [] vs x rest bytes le p q e = subst (Each P vs) (e ∙ ap (λ (z : List ℕ). z ++ rest) p) q
others_after P code (u ∷ us) [] x rest bytes le p q e = absurd (omega arith)
others_after P code (u ∷ us) (v ∷ vs) x rest bytes le p q e =
    let one = peel code u v x bytes rest [] p q (sym e ∙ sym (append-nil bytes)) in
    others_after P code us vs p.back rest q.back (omega arith) p.second q.second (sym (append-nil q.back) ∙ sym one.past)

-- Some bytes begin with spellings of these values.
record HasPrefix {X : Type 0} (P : X → List ℕ → Type 0) (xs : List X) (bytes : List ℕ) : Type 0 where
  prefix : List ℕ
  back : List ℕ
  spelled : Each P xs prefix
  joined : bytes ≡ prefix ++ back

prefix_of : {X : Type 0} (P : X → List ℕ → Type 0) (n : ℕ) (vs : List X) (bytes : List ℕ) → Each P vs bytes → HasPrefix P (take n vs) bytes
prefix_of P zero vs bytes q = record { prefix = []; back = bytes; spelled = refl; joined = refl }
prefix_of P (suc n) [] bytes q = record { prefix = []; back = bytes; spelled = refl; joined = refl }
prefix_of P (suc n) (v ∷ vs) bytes q =
    let r = prefix_of P n vs q.back q.second in
    record {
      prefix = q.prefix ++ r.prefix;
      back = r.back;
      spelled = record { prefix = q.prefix; back = r.prefix; first = q.first; second = r.spelled; joined = refl };
      joined = q.joined ∙ ap (λ (z : List ℕ). q.prefix ++ z) r.joined ∙ sym (append_assoc q.prefix r.prefix r.back);
    }

-- so many are there
pub several_there : {X : Type 0} (P : X → List ℕ → Type 0) (n : ℕ) (vs : List X) (bytes : List ℕ) → n ≤ length vs → Each P vs bytes
    → NoneSpelled (Several n P) bytes → ⊥
several_there P n vs bytes le q none =
    let r = prefix_of P n vs bytes q in
    none (take n vs) r.prefix r.back (length-take-le n vs le, r.spelled) (sym r.joined)

-- the value that stands at a place, and those after it
pub one_at : {X : Type 0} (P : X → List ℕ → Type 0) (vs : List X) (n : ℕ) (d : X) (bytes : List ℕ) → n < length vs
    → Each P (drop n vs) bytes → Then (P (get_or vs n d)) (Each P (drop (n + 1) vs)) bytes
one_at {X = X} P vs n d bytes lt q = subst (λ (ws : List X). Each P ws bytes) (drop_more vs n d lt) q

-- the same of one value after some others
pub one_after : {X : Type 0} (P : X → List ℕ → Type 0) → IsCode P → (vs : List X) (n : ℕ) (u : X) (x rest bytes : List ℕ) → n < length vs
    → P u x → Each P (drop n vs) bytes → bytes ≡ x ++ rest → Each P (drop (n + 1) vs) rest
one_after {X = X} P code vs n u x rest bytes lt p q e =
    let one : Each P (u ∷ []) x = record { prefix = x; back = []; first = p; second = refl; joined = sym (append-nil x) } in
    subst (λ (ws : List X). Each P ws rest) (drop-drop 1 n vs)
    (others_after P code (u ∷ []) (drop n vs) x rest bytes (omega (arith, length-drop n vs)) one q e)

pub one_there : {X : Type 0} (P : X → List ℕ → Type 0) (vs : List X) (n : ℕ) (bytes : List ℕ) → n < length vs → Each P (drop n vs) bytes
    → NoneSpelled P bytes → ⊥
one_there {X = X} P vs n bytes lt q none = of_some (drop n vs) (omega (arith, length-drop n vs)) q
  where
    of_some : (ws : List X) → 0 < length ws → Each P ws bytes → ⊥
    of_some [] some each = absurd (omega arith)
    of_some (w ∷ ws) some each = none w each.prefix each.back each.first (sym each.joined)
