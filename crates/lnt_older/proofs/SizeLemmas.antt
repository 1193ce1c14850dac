-- A walk that tests of each unit that it can be written anew.
use Rattle.std.proofs.Common.{◌≡◌, ℕ, ◌+◌, ◌<◌, List, [], ◌∷◌, ◌++◌, length, refl, arith}
use Rattle.std.specs.List.{AllByRecursion}
use Rattle.lnt_wire.specs.Reading.{At}
use Rattle.lnt_wire.specs.declared.format.Order.{Order}
use Rattle.lnt_header.specs.Joins.{Each, PlacedFrom}
use Rattle.lnt_older.specs.OlderUnits.{AnyParts}
use Rattle.lnt_older.specs.Directories.{directory_at, Directory}
use Rattle.lnt_older.specs.Upgradable.{IsLargeNext, IsUnitNext, AddsAny, AreLeft, CanBeUpgraded, CanUpgrade}
use Rattle.lnt_older.specs.Sections.{HasAddressSize, IsLargeAt, UpgradedBytes, HasUnits}
use Rattle.lnt_older.proofs.PlacedLaws.{left_all}
use Rattle.lnt_older.proofs.SectionLemmas.{IsSpelled, WalkedTo, any_long, fewer_left, unit_next, walked_all, walked_more, walked_none}
use Rattle.std.proofs.lemmas.Grind.{common_steps}

-- ---- what can be written for units, each of which can be written anew

pub record Newer (order : Order) (size : ℕ) (directories : List Directory) (offset : ℕ) (units : List (ℕ × AnyParts)) (bytes : List ℕ)
    : Type 0 where
  pub sound : PlacedFrom (IsSpelled order) offset units bytes
  pub sizes : AllByRecursion (HasAddressSize size) units
  pub newer : List ℕ
  pub upgraded : Each (UpgradedBytes order directories) units newer

pub newer_of : (order : Order) (size : ℕ) (directories : List Directory) (offset : ℕ) (units : List (ℕ × AnyParts)) (bytes : List ℕ)
    → PlacedFrom (CanBeUpgraded order size directories) offset units bytes → Newer order size directories offset units bytes
newer_of order size directories offset [] bytes none = record { sound = none; sizes = tt; newer = []; upgraded = refl }
newer_of order size directories offset (unit ∷ units) bytes (prefix, back, here, so, joined, rest) =
    let others = newer_of order size directories (offset + length prefix) units back rest in
    record {
      sound = (prefix, back, here, so.spelled, joined, others.sound);
      sizes = (so.size, others.sizes);
      newer = so.newer ++ others.newer;
      upgraded = record { prefix = so.newer; back = others.newer; first = so.upgraded; second = others.upgraded; joined = refl };
    }

pub added_long : (size : ℕ) (directories : List Directory) (at next : At) (old new : List ℕ) → AddsAny size directories at next old new
    → length next.rest < length at.rest
added_long size directories at next old new a = any_long at next a.parts a.read

-- ---- the walk

-- Each of the units up to a cursor can be written anew, and units are left.
pub record SizedTo (order : Order) (size : ℕ) (directories : List Directory) (section : List ℕ) (at : At) : Type 0 where
  pub units : List (ℕ × AnyParts)
  pub walked : WalkedTo (λ o. CanBeUpgraded o size directories) order section at units
  pub left : AreLeft IsSpelled at

module _ (order : Order) (size : ℕ) (directories : List Directory) (section : List ℕ) where
  pub sized_none : (at : At) → HasUnits order section → at.rest ≡ section → at.place ≡ 0 → at.order ≡ order
      → SizedTo order size directories section at
  sized_none at units rest place ordered = grind (arith, common_steps, walked_none, left_all)

  pub sized_more : (at next : At) (old new : List ℕ) → SizedTo order size directories section at → AddsAny size directories at next old new
      → SizedTo order size directories section next
  sized_more at next old new s a = record {
    units = s.units ++ (at.place, a.parts) ∷ [];
    walked = walked_more (λ o. CanBeUpgraded o size directories) order section at next s.units a.parts s.walked a.read a.can;
    left = fewer_left IsSpelled (λ o unit bytes so. so) at next a.parts s.left a.read;
  }

  pub sized_next : (at : At) → SizedTo order size directories section at → 0 < length at.rest → IsUnitNext at
  sized_next at s some = unit_next IsSpelled (λ o unit bytes so. so) at s.left some

  pub sized_all : (at : At) → SizedTo order size directories section at → length at.rest ≡ 0 → CanUpgrade order size directories section
  sized_all at s ended = (s.units, walked_all (λ o. CanBeUpgraded o size directories) order section at s.units s.walked ended)

  pub sized_large : (at : At) (offset : ℕ) → SizedTo order size directories section at
      → IsLargeNext size (directory_at directories at.place) at → offset ≡ at.place → IsLargeAt order size directories section offset
  sized_large at offset s l here =
      let w = s.walked in
      rw here (record {
        prefix = w.done;
        unit = l.unit;
        rest = l.more;
        joined = rw (w.joined, l.joined) refl;
        place = w.place;
        before = (s.units, w.sound);
        large = rw w.order_is at l.large;
        misfit = rw w.order_is at l.misfit;
      })

-- The lemmas of `judge_sizes`.
pub ruleset judge_sizes_lemmas = (sized_none, sized_more, sized_next, sized_all, sized_large, added_long)
