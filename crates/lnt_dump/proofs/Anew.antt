-- A section that is written anew and handed to a writer, page by page.
use Rattle.std.proofs.Common.{◌≡◌, ℕ, List, [], Option}
use Rattle.lnt_wire.specs.Reading.{At}
use Rattle.lnt_wire.specs.declared.format.Order.{Order}
use Rattle.lnt_older.specs.Sections.{IsUpgraded}
use Rattle.lnt_older.specs.Upgradable.{AddsAny, CanBeLeft, CanUpgrade}
use Rattle.lnt_older.specs.declared.directories.Directory.{Directory}
use Rattle.lnt_older.proofs.WritingLaws.{WritingTo, writing_all, writing_more, writing_none, writing_rest}
use Rattle.lnt_dump.proofs.PagedWalks.{IsWalk, PagedTo, walk_begun}

module _ (order : Order) (size : ℕ) (directories : List Directory) (section : List ℕ) where
  pub anew_walk : IsWalk (WritingTo order size directories section) (AddsAny size directories) (IsUpgraded order size directories section)
  anew_walk = record {
    more = λ at next text old new w a. writing_more order size directories section at next text old new w a;
    all = λ at text w ended. writing_all order size directories section at text w ended;
    rest = λ at text w. writing_rest order size directories section at text w;
  }

  pub anew_begun : (at : At) (old : Option (List ℕ)) (page : List ℕ) → CanUpgrade order size directories section → at.rest ≡ section
      → at.place ≡ 0 → at.order ≡ order → page ≡ [] → PagedTo (WritingTo order size directories section) at old old page
  anew_begun at old page can rest place ordered empty =
      walk_begun (WritingTo order size directories section) at old page
      (writing_none order size directories section at can rest place ordered) empty

  pub anew_left : (at : At) (old now : Option (List ℕ)) (page : List ℕ)
      → PagedTo (WritingTo order size directories section) at old now page → CanBeLeft size directories at
  anew_left at old now page p = p.made.left
