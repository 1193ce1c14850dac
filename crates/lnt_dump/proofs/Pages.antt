-- Text that is written page by page.
use Rattle.std.proofs.lemmas.Grind.{common_steps}
use Rattle.std.proofs.Common.{◌≡◌, ◌∙◌, ℕ, ◌+◌, ◌<◌, List, [], ◌∷◌, ◌++◌, length, take, drop, get_or, Option}
use Rattle.std.proofs.Common.{refl, sym, ap, append_assoc, append-nil, subst, arith, take-append-drop, Result, Ok, Err, OnOk, OnErr}
use Rattle.std.proofs.lemmas.List.{length-take-le, take_more}
use Rattle.std.proofs.KnownBytes.{Appends-nil, Appends-trans}
use Rattle.std.specs.Io.KnownBytes.{Appends}
use Rattle.lnt_io.specs.Prefixes.{AppendsPrefix}
use Rattle.lnt_io.proofs.PrefixLaws.{prefix_after, prefix_before, prefix_same}
use Rattle.lnt_dump.specs.Units.{numbered}
use Rattle.lnt_dump.specs.Stepping.{IsPaged}
use Rattle.lnt_dump.proofs.Lines.{numbered_prefix, numbered_push}

-- nothing was written
pub paged_kept : (page : List ℕ) (out : Option (List ℕ)) → IsPaged page out out page
paged_kept page out = record { written = []; appended = Appends-nil out; joined = refl }

-- the page was written
pub paged_turned : (page left : List ℕ) (old new : Option (List ℕ)) → Appends old new page → left ≡ [] → IsPaged page old new left
paged_turned page left old new written empty = record {
  written = page;
  appended = written;
  joined = sym (append-nil page) ∙ ap (λ (z : List ℕ). page ++ z) (sym empty);
}

-- the text with more after it
grown : (text page more written : List ℕ) → text ≡ written ++ page → text ++ more ≡ written ++ (page ++ more)
grown text page more written joined = ap (λ (z : List ℕ). z ++ more) joined ∙ append_assoc written page more

module _ {text page : List ℕ} {old now : Option (List ℕ)} where
  -- more text came, of which some may be written
  pub paged_more : (more : List ℕ) {left : List ℕ} {new : Option (List ℕ)} → IsPaged text old now page
      → IsPaged (page ++ more) now new left → IsPaged (text ++ more) old new left
  paged_more more {left} {new} p q = record {
    written = p.written ++ q.written;
    appended = Appends-trans old now new p.written q.written p.appended q.appended;
    joined = grind (arith, common_steps, grown, append_assoc);
  }

  -- of it a prefix was written
  pub paged_prefix : (more : List ℕ) {new : Option (List ℕ)} → IsPaged text old now page → AppendsPrefix now new (page ++ more)
      → AppendsPrefix old new (text ++ more)
  paged_prefix more {new} p f = grind (arith, common_steps, prefix_same, grown, prefix_after)

  -- what waited was written too
  pub paged_all : (new : Option (List ℕ)) → IsPaged text old now page → Appends now new page → Appends old new text
  paged_all new p written = subst (Appends old new) (sym p.joined) (Appends-trans old now new p.written page p.appended written)

  pub paged_cut : {new : Option (List ℕ)} → IsPaged text old now page → AppendsPrefix now new page → AppendsPrefix old new text
  paged_cut {new} p f = grind (arith, common_steps, prefix_same, prefix_after)

  -- nothing more was written
  pub paged_kept_prefix : IsPaged text old now page → AppendsPrefix old now text
  paged_kept_prefix p = record { prefix = p.written; rest = page; joined = sym p.joined; appended = p.appended }

-- nothing is added
pub paged_none : (page : List ℕ) (out : Option (List ℕ)) → IsPaged (page ++ []) out out page
paged_none page out = record { written = []; appended = Appends-nil out; joined = append-nil page }

-- ---- lines that are counted, after the text before them

module _ {X : Type 0} (line : ℕ → X → List ℕ) (before : List ℕ) where
  pushed : (list : List X) (index : ℕ) (x : X) → index ≡ length list
      → (before ++ numbered line 0 list) ++ line index x ≡ before ++ numbered line 0 (list ++ x ∷ [])
  pushed list index x is = grind (arith, common_steps, append_assoc, numbered_push)

  -- one line more was printed
  pub told_more : (list : List X) (x : X) {next : List X} {index : ℕ} {page left : List ℕ} {old now new : Option (List ℕ)}
      → index ≡ length list → next ≡ list ++ x ∷ [] → IsPaged (before ++ numbered line 0 list) old now page
      → IsPaged (page ++ line index x) now new left → IsPaged (before ++ numbered line 0 next) old new left
  told_more list x {index = index} {left = left} {old = old} {new = new} is next_is paged here =
      grind (arith, common_steps, pushed list index x is, paged_more (line index x) paged here)

  -- the lines of the first items begin those of all
  pub told_prefix : (list more : List X) {all : List X} {old new : Option (List ℕ)} → all ≡ list ++ more
      → AppendsPrefix old new (before ++ numbered line 0 list) → AppendsPrefix old new (before ++ numbered line 0 all)
  told_prefix list more {old = old} {new = new} is f =
      let prefix = numbered_prefix line 0 list more in
      grind (arith, prefix.1, is, append_assoc, prefix_before old new (before ++ numbered line 0 list) prefix.0 f)

  -- of one line more a prefix was written
  pub told_cut : (list more : List X) (x : X) {all : List X} {index : ℕ} {page : List ℕ} {old now new : Option (List ℕ)}
      → index ≡ length list → all ≡ (list ++ x ∷ []) ++ more → IsPaged (before ++ numbered line 0 list) old now page
      → AppendsPrefix now new (page ++ line index x) → AppendsPrefix old new (before ++ numbered line 0 all)
  told_cut list more x {index = index} is all_is paged f =
      told_prefix (list ++ x ∷ []) more all_is (rw (pushed list index x is) at (paged_prefix (line index x) paged f))

  taken : (xs : List X) (k : ℕ) (x : X) → k < length xs → x ≡ get_or xs k x → take (k + 1) xs ≡ take k xs ++ x ∷ []
  taken xs k x lt is = take_more xs k x lt ∙ ap (λ (y : X). take k xs ++ y ∷ []) (sym is)

  -- where the lines are those of the first k items
  pub told_next : (xs : List X) (k : ℕ) (x : X) {page left : List ℕ} {old now new : Option (List ℕ)} → k < length xs → x ≡ get_or xs k x
      → IsPaged (before ++ numbered line 0 (take k xs)) old now page → IsPaged (page ++ line k x) now new left
      → IsPaged (before ++ numbered line 0 (take (k + 1) xs)) old new left
  told_next xs k x lt is paged here = grind (arith, common_steps, told_more, length-take-le, taken)

  pub told_next_cut : (xs : List X) (k : ℕ) (x : X) {page : List ℕ} {old now new : Option (List ℕ)} → k < length xs → x ≡ get_or xs k x
      → IsPaged (before ++ numbered line 0 (take k xs)) old now page → AppendsPrefix now new (page ++ line k x)
      → AppendsPrefix old new (before ++ numbered line 0 xs)
  told_next_cut xs k x lt is paged f =
      told_cut (take k xs) (drop (k + 1) xs) x (sym (length-take-le k xs (omega (arith, lt))))
      (sym (take-append-drop (k + 1) xs) ∙ ap (λ (z : List X). z ++ drop (k + 1) xs) (taken xs k x lt is)) paged f

-- ---- the text of a unit in its three parts, of which the first stands on the page

module _ (X : Type 0) (Is : X → Type 0) (first second : X → List ℕ) {lines page : List ℕ} {old start : Option (List ℕ)}
    (begun : IsPaged lines old start page) where
  joined : (x : X) → (lines ++ first x) ++ second x ≡ lines ++ (first x ++ second x)
  joined x = append_assoc lines (first x) (second x)

  -- of the second part a prefix was written
  pub first_cut : {new : Option (List ℕ)} → ((x : X) → Is x → AppendsPrefix start new (page ++ first x))
      → (x : X) → Is x → AppendsPrefix old new (lines ++ (first x ++ second x))
  first_cut {new} f x is = grind (arith, common_steps, prefix_same, joined, prefix_before, paged_prefix)

  -- of the third
  pub second_cut : {now new : Option (List ℕ)} {page2 : List ℕ} → ((x : X) → Is x → IsPaged (page ++ first x) start now page2)
      → ((x : X) → Is x → AppendsPrefix now new (page2 ++ second x)) → (x : X) → Is x
      → AppendsPrefix old new (lines ++ (first x ++ second x))
  second_cut {new = new} p f x is = grind (arith, common_steps, prefix_same, joined, paged_prefix, paged_more)

  -- all were written, or a prefix
  module _ {now then : Option (List ℕ)} {page2 page3 : List ℕ}
      (p : (x : X) → Is x → IsPaged (page ++ first x) start now page2)
      (q : (x : X) → Is x → IsPaged (page2 ++ second x) now then page3) where
    parts : (x : X) → Is x → IsPaged ((lines ++ first x) ++ second x) old then page3
    parts x is = paged_more (second x) (paged_more (first x) begun (p x is)) (q x is)

    pub parts_whole : {A E : Type 0} (result : Result A E) (new : Option (List ℕ)) → OnOk result (Appends then new page3)
        → OnOk result ((x : X) → Is x → Appends old new (lines ++ (first x ++ second x)))
    parts_whole (Err error) new w = w
    parts_whole (Ok value) new w = λ x is. subst (Appends old new) (joined x) (paged_all new (parts x is) w)

    pub parts_cut : {A E : Type 0} (result : Result A E) (new : Option (List ℕ)) → OnErr result (AppendsPrefix then new page3)
        → OnErr result ((x : X) → Is x → AppendsPrefix old new (lines ++ (first x ++ second x)))
    parts_cut (Ok value) new w = w
    parts_cut (Err error) new w =
        λ x is. prefix_same old new ((lines ++ first x) ++ second x) (lines ++ (first x ++ second x)) (joined x)
        (paged_cut (parts x is) w)
