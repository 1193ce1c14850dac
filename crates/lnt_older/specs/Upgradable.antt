-- Which units that can be written anew are left at a cursor, and what it is to write one. Public contracts speak of all of it.
use Rattle.std.specs.Prelude.{◌≡◌, ℕ, List, ◌++◌}
use Rattle.lnt_wire.specs.Reading.{At, Reads}
use Rattle.lnt_wire.specs.FormBytes.{HasNoZero}
use Rattle.lnt_wire.specs.declared.format.Order.{Order}
use Rattle.lnt_header.specs.Joins.{PlacedFrom}
use Rattle.lnt_older.specs.OlderUnits.{AnyBytes, AnyParts}
use Rattle.lnt_older.specs.Directories.{AreDirectories, directory_at, Directory}
pub use Rattle.lnt_older.specs.Sections.{CanBeUpgraded, CanUpgrade, Fits}
use Rattle.lnt_older.specs.Sections.{IsBroken, IsLargeAt, IsLargeUnit}
use Rattle.lnt_older.specs.declared.section.UpgradeFault.{UpgradeFault}
use Rattle.lnt_older.specs.declared.section.UpgradeFault.TheVariants.{FileZero, Malformed, TooLarge, Memory}
use Rattle.lnt_older.specs.FileZero.{IsZeroRowAt}

-- ---- directories

-- The units of the directories rise, and no path has a zero byte.
pub record AreSoundDirectories (directories : List Directory) : Type 0 where
  pub rising : AreDirectories directories
  pub no_zero : (offset : ℕ) → HasNoZero (directory_at directories offset)

-- ---- at a cursor

-- Items are left from a cursor on, each of which is so (Says) in the cursor's byte order.
abbrev pub AreLeft : {A : Type 0} → (Order → ℕ × A → List ℕ → Type 0) → At → Type 0
AreLeft {A} Says at = (items : List (ℕ × A)) × PlacedFrom (Says at.order) at.place items at.rest

-- Units that can be written anew are left.
abbrev pub CanBeLeft : ℕ → List Directory → At → Type 0
CanBeLeft address_size directories at = AreLeft (λ order. CanBeUpgraded order address_size directories) at

-- The unit at a cursor, which can be written anew, was read, and the one of version 5 was added.
pub record AddsAny (address_size : ℕ) (directories : List Directory) (old new : At) (text_old text_new : List ℕ) : Type 0 where
  pub parts : AnyParts
  pub read : Reads (AnyBytes old.order) parts old new
  pub can : CanBeUpgraded old.order address_size directories (old.place, parts) read.spelling
  pub joined : text_new ≡ text_old ++ can.newer

-- ---- what the bodies of `section.rt` say of one step. No public contract speaks of it.

-- ---- one unit

-- A unit comes next at a cursor.
abbrev pub IsUnitNext : At → Type 0
IsUnitNext at = (parts : AnyParts) × (bytes : List ℕ) × (more : List ℕ) × AnyBytes at.order parts bytes × (at.rest ≡ bytes ++ more)

-- An older unit comes next that can't be written anew.
pub record IsLargeNext (address_size : ℕ) (directory : List ℕ) (at : At) : Type 0 where
  pub unit : List ℕ
  pub more : List ℕ
  pub joined : at.rest ≡ unit ++ more
  pub large : IsLargeUnit at.order address_size directory unit
  pub misfit : Fits at.order address_size directory unit → ⊥

-- ---- why a section isn't written anew, by parts

abbrev pub IsUnitFault : Order → List ℕ → UpgradeFault → Type 0
IsUnitFault order section (Malformed fault) = IsBroken order section fault
IsUnitFault order section Memory = Unit {0}
IsUnitFault order section other = ⊥

abbrev pub IsSizeFault : Order → ℕ → List Directory → List ℕ → UpgradeFault → Type 0
IsSizeFault order address_size directories section (TooLarge offset) = IsLargeAt order address_size directories section offset
IsSizeFault order address_size directories section Memory = Unit {0}
IsSizeFault order address_size directories section other = ⊥

abbrev pub IsRowFault : Order → ℕ → List ℕ → UpgradeFault → Type 0
IsRowFault order address_size section (FileZero offset index) = IsZeroRowAt order address_size section offset index
IsRowFault order address_size section Memory = Unit {0}
IsRowFault order address_size section other = ⊥
