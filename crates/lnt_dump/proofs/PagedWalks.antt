-- A text that is made step by step from a cursor on, and handed to a writer page by page.
use Rattle.std.proofs.Common.{arith, ◌≡◌, ◌∙◌, ℕ, List, [], ◌++◌, length, Option, refl, sym, ap, subst, append_assoc}
use Rattle.std.proofs.lemmas.Grind.{common_steps}
use Rattle.std.proofs.KnownBytes.{Appends-nil, Appends-trans}
use Rattle.std.specs.Io.KnownBytes.{Appends}
use Rattle.lnt_io.specs.Prefixes.{AppendsPrefix}
use Rattle.lnt_io.proofs.PrefixLaws.{prefix_before}
use Rattle.lnt_wire.specs.Reading.{At}
use Rattle.lnt_dump.specs.Printed.{IsPrintedIn}
use Rattle.lnt_dump.specs.Stepping.{IsPrefixIn, IsPaged}
use Rattle.lnt_dump.proofs.Pages.{paged_all, paged_cut, paged_kept_prefix}

-- The steps up to a cursor make a text (To), a step adds to it (Adds), and at the end it is so (Is), of which each text on the way is a
-- prefix.
pub record IsWalk (To : At → List ℕ → Type 0) (Adds : At → At → List ℕ → List ℕ → Type 0) (Is : List ℕ → Type 0) : Type 0 where
  pub more : (at next : At) (text old new : List ℕ) → To at (text ++ old) → Adds at next old new → To next (text ++ new)
  pub all : (at : At) (text : List ℕ) → To at text → length at.rest ≡ 0 → Is text
  pub rest : (at : At) (text : List ℕ) → To at text → (more : List ℕ) × Is (text ++ more)

-- The text of the steps up to a cursor: what the writer has of it, and what waits in the page.
pub record PagedTo (To : At → List ℕ → Type 0) (at : At) (old now : Option (List ℕ)) (page : List ℕ) : Type 0 where
  pub text : List ℕ
  pub paged : IsPaged text old now page
  pub made : To at text

pub walk_begun : (To : At → List ℕ → Type 0) (at : At) (old : Option (List ℕ)) (page : List ℕ) → To at [] → page ≡ []
    → PagedTo To at old old page
walk_begun To at old page none empty =
    record { text = []; paged = record { written = []; appended = Appends-nil old; joined = sym empty }; made = none }

module _ {To : At → List ℕ → Type 0} {Adds : At → At → List ℕ → List ℕ → Type 0} {Is : List ℕ → Type 0} (walk : IsWalk To Adds Is) where
  -- a step added to the page
  walk_more : {at next : At} {old now : Option (List ℕ)} {page new : List ℕ} → PagedTo To at old now page → Adds at next page new
      → PagedTo To next old now new
  walk_more {at} {next} {old} {now} {page} {new} p a = record {
    text = p.paged.written ++ new;
    paged = record { written = p.paged.written; appended = p.paged.appended; joined = refl };
    made = walk.more at next p.paged.written page new (subst (To at) p.paged.joined p.made) a;
  }

  -- and the page was written, if it is full
  pub walk_turned : {at next : At} {old now then : Option (List ℕ)} {page new left : List ℕ} → PagedTo To at old now page
      → Adds at next page new → IsPaged new now then left → PagedTo To next old then left
  walk_turned {old = old} {now = now} {then = then} {left = left} p a q =
      let m = walk_more p a in
      record {
        text = m.text;
        paged = record {
          written = m.paged.written ++ q.written;
          appended = Appends-trans old now then m.paged.written q.written m.paged.appended q.appended;
          joined = m.paged.joined ∙ (ap (λ (z : List ℕ). m.paged.written ++ z) q.joined
              ∙ sym (append_assoc m.paged.written q.written left));
        };
        made = m.made;
      }

  walk_prefix : {at : At} {old now : Option (List ℕ)} {text : List ℕ} → To at text → AppendsPrefix old now text → IsPrefixIn Is old now
  walk_prefix {at} {old} {now} {text} made f = grind (arith, common_steps, prefix_before)

  -- nothing more was written
  pub walk_stopped : {at : At} {old now : Option (List ℕ)} {page : List ℕ} → PagedTo To at old now page → IsPrefixIn Is old now
  walk_stopped p = walk_prefix p.made (paged_kept_prefix p.paged)

  -- of the page a prefix was written
  pub walk_last_cut : {at : At} {old now then : Option (List ℕ)} {page : List ℕ} → PagedTo To at old now page
      → AppendsPrefix now then page → IsPrefixIn Is old then
  walk_last_cut p f = walk_prefix p.made (paged_cut p.paged f)

  pub walk_cut : {at next : At} {old now then : Option (List ℕ)} {page new : List ℕ} → PagedTo To at old now page
      → Adds at next page new → AppendsPrefix now then new → IsPrefixIn Is old then
  walk_cut p a f = walk_last_cut (walk_more p a) f

  pub walk_printed : {at : At} {old now : Option (List ℕ)} {page : List ℕ} (then : Option (List ℕ)) → PagedTo To at old now page
      → length at.rest ≡ 0 → Appends now then page → IsPrintedIn Is old then
  walk_printed {at} then p ended w = (p.text, walk.all at p.text p.made ended, paged_all then p.paged w)
