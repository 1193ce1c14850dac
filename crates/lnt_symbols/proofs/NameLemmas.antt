-- The names of files, one after another.
use Rattle.std.proofs.Common.{◌≡◌, ◌∙◌, ◌+◌, ◌-◌, ◌^◌, ◌<◌, ◌≤◌, ℕ, Bool, true, false, List, ◌++◌, Option, Some, None, ap, arith, refl}
use Rattle.std.proofs.Common.{subst, sym, length, take, drop}
use Rattle.std.specs.Prelude.{◌==◌, nat_lt, if◌then◌else◌}
use Rattle.std.specs.BTreeMap.{Updates, get, is_at}
use Rattle.std.specs.Ordering.{nat_cmp}
use Rattle.std.proofs.Math.Seq.{drop-append_seam, take-length}
use Rattle.std.proofs.lemmas.Bool.Decides.{nat_tests}
use Rattle.std.proofs.lemmas.List.{drop-append-le, length-drop, take-append-le}
use Rattle.lnt_symbols.specs.declared.breakpad.names.Names.{Names}
use Rattle.lnt_symbols.specs.declared.breakpad.names.Place.{Place}
use Rattle.lnt_symbols.specs.Stepping.{AreInside, known_or, name_or, text_at}

-- a text stays where it is
text_kept : (texts more : List ℕ) (place : Place) → place.start + place.length ≤ length texts
    → text_at (texts ++ more) place ≡ text_at texts place
text_kept texts more place inside =
    let long : length (drop place.start texts) ≡ length texts - place.start = length-drop place.start texts in
    ap (take place.length) (drop-append-le place.start texts more (omega (arith, inside)))
    ∙ take-append-le place.length (drop place.start texts) more (omega (arith, inside, long))

known_kept : (texts more : List ℕ) (place : Option Place) (rest : List ℕ)
    → ((at : Place) → place ≡ Some at → at.start + at.length ≤ length texts)
    → known_or (texts ++ more) place rest ≡ known_or texts place rest
known_kept texts more None rest inside = refl
known_kept texts more (Some place) rest inside = text_kept texts more place (inside place refl)

-- the one that is added stands behind the others
text_added : (texts text : List ℕ) (place : Place) → place.start ≡ length texts → place.length ≡ length text
    → text_at (texts ++ text) place ≡ text
text_added texts text place start long =
    ap (λ n. take place.length (drop n (texts ++ text))) start ∙ ap (take place.length) (drop-append_seam texts text)
    ∙ ap (λ n. take n text) long ∙ take-length text

pub name_added : (old new : Names) (number : ℕ) (name : List ℕ) (place : Place) → number < 2 ^ 32 → AreInside old
    → get nat_cmp old.places number ≡ None → Updates nat_cmp old.places new.places number (Some place)
    → new.texts.items ≡ old.texts.items ++ name → place.start ≡ length old.texts.items → place.length ≡ length name
    → (other : ℕ) (rest : List ℕ) → name_or new other rest ≡ name_or old other (if number == other then name else rest)
name_added old new number name place small inside none updates texts start long other rest =
    by_test (number == other) refl (nat_lt other (2 ^ 32)) refl
  where
    by_test : (t : Bool) → (number == other) ≡ t → (s : Bool) → nat_lt other (2 ^ 32) ≡ s
        → name_or new other rest ≡ name_or old other (if number == other then name else rest)
    by_test true e false f =
        let same : number ≡ other = grind (arith, nat_tests) in
        let no : nat_lt other (2 ^ 32) ≡ true = grind (arith, nat_tests) in
        let both : true ≡ false = sym no ∙ f in cc both
    by_test true e true f =
        let same : number ≡ other = grind (arith, nat_tests) in
        let at : get nat_cmp new.places other ≡ Some place =
        subst (λ (n : ℕ). get nat_cmp new.places n ≡ Some place) same updates.1 in
        let was : get nat_cmp old.places other ≡ None = subst (λ (n : ℕ). get nat_cmp old.places n ≡ None) same none in
        rw f (rw e (rw at (rw was (rw texts (text_added old.texts.items name place start long)))))
    by_test false e false f = rw f (rw e refl)
    by_test false e true f =
        let apart : is_at (nat_cmp number) other ≡ false = grind (arith, nat_tests) in
        let at : get nat_cmp new.places other ≡ get nat_cmp old.places other = updates.2 other apart in
        rw f (rw e (rw at (rw texts (known_kept old.texts.items name (get nat_cmp old.places other) rest (inside other)))))
