-- A walk that writes each unit anew, where each can be: laws that proofs of the crates above cite.
use Rattle.std.proofs.Common.{◌≡◌, ◌∙◌, ℕ, ◌<◌, List, [], ◌∷◌, ◌++◌, length, length-append, refl, sym, ap, subst, arith, append_assoc}
use Rattle.std.specs.List.{AllByRecursion}
use Rattle.std.proofs.lemmas.List.{append-nil, nil_from_length}
use Rattle.lnt_wire.specs.Reading.{At}
use Rattle.lnt_wire.specs.declared.format.Order.{Order}
use Rattle.lnt_header.specs.Joins.{Each, PlacedFrom}
use Rattle.lnt_older.specs.OlderUnits.{AnyParts, older_parts}
use Rattle.lnt_older.specs.Directories.{directory_at, Directory}
use Rattle.lnt_older.specs.Upgradable.{IsLargeNext, IsUnitNext, AddsAny, CanBeLeft, CanBeUpgraded, CanUpgrade}
use Rattle.lnt_older.specs.Sections.{HasAddressSize, IsUpgraded, UpgradedBytes}
use Rattle.lnt_older.proofs.PlacedLaws.{left_all}
use Rattle.lnt_older.proofs.SectionLemmas.{IsSpelled, fewer_left, unit_next}
use Rattle.lnt_older.proofs.SizeLemmas.{newer_of}
use Rattle.lnt_older.proofs.UpgradeLaws.{any_once, some_bytes}
use Rattle.std.proofs.lemmas.Grind.{common_steps}

-- ---- the units that are left

module _ (size : ℕ) (directories : List Directory) where
  pub can_next : (at : At) → CanBeLeft size directories at → 0 < length at.rest → IsUnitNext at
  can_next at left some = unit_next (λ o. CanBeUpgraded o size directories) (λ o unit bytes so. so.spelled) at left some

  can_after : (at next : At) (old new : List ℕ) → CanBeLeft size directories at → AddsAny size directories at next old new
      → CanBeLeft size directories next
  can_after at next old new left a =
      fewer_left (λ o. CanBeUpgraded o size directories) (λ o unit bytes so. so.spelled) at next a.parts left a.read

  -- the next one isn't too large
  pub never_large : (at : At) → CanBeLeft size directories at → IsLargeNext size (directory_at directories at.place) at → ⊥
  never_large at ([], none) l =
      let older = l.large.older in
      let some = some_bytes at.order (older_parts l.large.header l.large.program) l.unit (older.order_is, older.spelled) in
      absurd (omega (arith, ap length (sym l.joined ∙ none), length-append l.unit l.more, some))
  never_large at (unit ∷ units, (prefix, back, here, so, joined, rest)) l =
      let older = l.large.older in
      let same : prefix ≡ l.unit =
      any_once at.order unit.1 (older_parts l.large.header l.large.program) prefix l.unit back l.more so.spelled
      (older.order_is, older.spelled) (sym joined ∙ l.joined) in
      l.misfit (rw (here, same) at so.fits)

-- ---- the walk

-- Of the units of the section those that are left can be written anew. This text and what is written for them, whatever that is, are
-- what is written for all.
pub record WritingTo (order : Order) (size : ℕ) (directories : List Directory) (section : List ℕ) (at : At) (text : List ℕ) : Type 0 where
  pub left : CanBeLeft size directories at
  pub all : (units : List (ℕ × AnyParts)) (more : List ℕ) → PlacedFrom (IsSpelled at.order) at.place units at.rest
      → AllByRecursion (HasAddressSize size) units → Each (UpgradedBytes at.order directories) units more
      → IsUpgraded order size directories section (text ++ more)

module _ (order : Order) (size : ℕ) (directories : List Directory) (section : List ℕ) where
  pub writing_none : (at : At) → CanUpgrade order size directories section → at.rest ≡ section → at.place ≡ 0 → at.order ≡ order
      → WritingTo order size directories section at []
  writing_none at can rest place ordered = grind (arith, common_steps, left_all)

  pub writing_more : (at next : At) (text old new : List ℕ) → WritingTo order size directories section at (text ++ old)
      → AddsAny size directories at next old new → WritingTo order size directories section next (text ++ new)
  writing_more at next text old new w a = record {
    left = can_after size directories at next old new w.left a;
    all = λ units more sound sizes upgraded.
        let here = a.read.spelling in
        let first = a.can.newer in
        let others = rw (a.read.order, a.read.place) at sound in
        let newer = rw a.read.order at upgraded in
        let joined : (text ++ old) ++ (first ++ more) ≡ (text ++ new) ++ more = simp (a.joined, append_assoc) in
        subst (IsUpgraded order size directories section) joined
        (w.all ((at.place, a.parts) ∷ units) (first ++ more) (here, next.rest, refl, a.read.spelled, a.read.whole, others)
        (a.can.size, sizes) (record { prefix = first; back = more; first = a.can.upgraded; second = newer; joined = refl }));
  }

  pub writing_all : (at : At) (text : List ℕ) → WritingTo order size directories section at text → length at.rest ≡ 0
      → IsUpgraded order size directories section text
  writing_all at text w ended = rw append-nil at (w.all [] [] (nil_from_length at.rest ended) tt refl)

  -- with what can be written for the others it is a section of version 5
  pub writing_rest : (at : At) (text : List ℕ) → WritingTo order size directories section at text
      → (more : List ℕ) × IsUpgraded order size directories section (text ++ more)
  writing_rest at text w = grind (arith, common_steps, newer_of)
