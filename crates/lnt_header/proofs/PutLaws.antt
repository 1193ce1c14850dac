-- What was put one after the other: joins and lists of shortest spellings.
use Rattle.std.proofs.Common.{◌≡◌, ℕ, zero, suc, ◌+◌, ◌<◌, ◌≤◌, List, [], ◌∷◌, ◌++◌, length, take, get_or, refl, sym}
use Rattle.std.proofs.Common.{ap, subst, ◌∙◌, append_assoc, append-nil, arith}
use Rattle.std.proofs.lemmas.List.{length-append, take_more}
use Rattle.lnt_wire.specs.declared.put.EncodeFault.{EncodeFault}
use Rattle.lnt_wire.specs.declared.put.EncodeFault.TheVariants.{Memory}
use Rattle.lnt_wire.specs.Bytes.{Exactly, Then, IsShortest, Appends}
use Rattle.lnt_header.specs.Encoding.{RefusedPut}
use Rattle.lnt_header.specs.Joins.{Each}
use Rattle.lnt_header.proofs.ReaderLaws.{each_push}
use Rattle.std.proofs.lemmas.Grind.{common_steps}

-- ---- joins

-- the shortest of a join is the join of the shortest
pub join_shortest : {X Y : Type 0} (P : X → List ℕ → Type 0) (Q : Y → List ℕ → Type 0) (u : X) (v : Y) (x y : List ℕ) → IsShortest P u x
    → IsShortest Q v y → IsShortest (λ (w : X × Y). Then (P w.0) (Q w.1)) (u, v) (x ++ y)
join_shortest P Q u v x y p q = grind (arith, common_steps, length-append)

-- one byte
pub byte_put : (n : ℕ) (old : List ℕ) → Appends (λ (k : ℕ). Exactly (k ∷ [])) n old (old ++ n ∷ [])
byte_put n old = grind (arith, common_steps)

-- one put after another
pub join_put : {X Y : Type 0} (P : X → List ℕ → Type 0) (Q : Y → List ℕ → Type 0) (u : X) (v : Y) (old middle new : List ℕ)
    → Appends P u old middle → Appends Q v middle new → Appends (λ (w : X × Y). Then (P w.0) (Q w.1)) (u, v) old new
join_put P Q u v old middle new p q = grind (arith, common_steps, join_shortest, append_assoc)

-- the same bytes as another value
pub put_as : {X Y : Type 0} (P : X → List ℕ → Type 0) (Q : Y → List ℕ → Type 0) (u : X) (v : Y) (old new : List ℕ)
    → ((x : List ℕ) → P u x → Q v x) → ((x : List ℕ) → Q v x → P u x) → Appends P u old new → Appends Q v old new
put_as P Q u v old new to from p = grind (arith, common_steps)

-- ---- lists

pub each_begun : {X : Type 0} (P : X → List ℕ → Type 0) (old : List ℕ) → Appends (Each P) [] old old
each_begun P old = grind (arith, common_steps, append-nil)

-- a spelling of a list with one more value, in two
pub record Parted {X : Type 0} (P : X → List ℕ → Type 0) (us : List X) (u : X) (bytes : List ℕ) : Type 0 where
  pub prefix : List ℕ
  pub back : List ℕ
  pub first : Each P us prefix
  pub last : P u back
  pub joined : bytes ≡ prefix ++ back

pub each_part : {X : Type 0} (P : X → List ℕ → Type 0) (us : List X) (u : X) (bytes : List ℕ) → Each P (us ++ u ∷ []) bytes
    → Parted P us u bytes
each_part P [] u bytes p = record {
  prefix = [];
  back = p.prefix;
  first = refl;
  last = p.first;
  joined = p.joined ∙ ap (λ (z : List ℕ). p.prefix ++ z) p.second
      ∙ append-nil p.prefix;
}
each_part P (v ∷ us) u bytes p =
    let rest = each_part P us u p.back p.second in
    record {
      prefix = p.prefix ++ rest.prefix;
      back = rest.back;
      first = record { prefix = p.prefix; back = rest.prefix; first = p.first; second = rest.first; joined = refl };
      last = rest.last;
      joined = p.joined ∙ ap (λ (z : List ℕ). p.prefix ++ z) rest.joined ∙ sym (append_assoc p.prefix rest.prefix rest.back);
    }

-- one more value after those that were put
pub each_put : {X : Type 0} (P : X → List ℕ → Type 0) (us : List X) (u : X) (old middle new : List ℕ) → Appends (Each P) us old middle
    → Appends P u middle new → Appends (Each P) (us ++ u ∷ []) old new
each_put P us u old middle new p q = record {
  spelling = p.spelling ++ q.spelling;
  spelled = record {
    spelled = each_push P us u p.spelling q.spelling p.spelled.spelled q.spelled.spelled;
    shortest = λ other t.
        let parts = each_part P us u other t in
        omega (
          arith,
          length-append p.spelling q.spelling,
          ap length parts.joined,
          length-append parts.prefix parts.back,
          p.spelled.shortest
              parts.prefix parts.first,
          q.spelled.shortest parts.back parts.last,
        );
  };
  joined = q.joined ∙ ap (λ (z : List ℕ). z ++ q.spelling) p.joined ∙ append_assoc old p.spelling q.spelling;
}

pub each_more : {X : Type 0} (P : X → List ℕ → Type 0) (xs : List X) (i : ℕ) (d : X) (old middle new : List ℕ) → i < length xs
    → Appends (Each P) (take i xs) old middle → Appends P (get_or xs i d) middle new
    → Appends (Each P) (take (i + 1) xs) old new
each_more P xs i d old middle new lt p q =
    subst (λ (vs : List _). Appends (Each P) vs old new) (sym (take_more xs i d lt))
    (each_put P (take i xs) (get_or xs i d) old middle new p q)

pub taken_all : {X : Type 0} (xs : List X) (n : ℕ) → length xs ≤ n → take n xs ≡ xs
taken_all [] zero le = refl
taken_all [] (suc n) le = refl
taken_all (x ∷ xs) zero le = absurd (omega arith)
taken_all (x ∷ xs) (suc n) le = ap (λ (ys : List _). x ∷ ys) (taken_all xs n (omega arith))

pub each_done : {X : Type 0} (P : X → List ℕ → Type 0) (xs : List X) (n : ℕ) (old new : List ℕ) → length xs ≤ n
    → Appends (Each P) (take n xs) old new → Appends (Each P) xs old new
each_done P xs n old new le p = subst (λ (ys : List _). Appends (Each P) ys old new) (taken_all xs n le) p

-- each value of a list that has a spelling has one
pub each_at : {X : Type 0} (P : X → List ℕ → Type 0) (xs : List X) (i : ℕ) (d : X) (bytes : List ℕ) → i < length xs → Each P xs bytes
    → (x : List ℕ) × P (get_or xs i d) x
each_at P [] i d bytes lt p = absurd (omega arith)
each_at P (x ∷ xs) zero d bytes lt p = (p.prefix, p.first)
each_at P (x ∷ xs) (suc i) d bytes lt p = each_at P xs i d p.back (omega arith) p.second

-- want of memory says nothing
pub refused_memory : {X : Type 0} (Spells : X → List ℕ → Type 0) (x : X) (fault : EncodeFault) → fault ≡ Memory → RefusedPut Spells x fault
refused_memory Spells x fault is = record { none = λ large. absurd cc }

-- The lemmas of loops that append each item of a list.
pub ruleset puts_each = (each_begun, each_more, each_done)
