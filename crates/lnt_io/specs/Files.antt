-- What is known of files, by their names.
use Rattle.std.specs.Prelude.{◌≡◌, ◌+◌, ◌^◌, ◌≤◌, ◌⊎◌, ℕ, List, Option, IfSome, ⊤}
use Rattle.lnt_io.specs.Pulling.{HasMoreThan}

-- What may be known of a file: that it can't be opened; that it can be, and all its bytes, where `None` says that nothing is claimed
-- of them; or that it can be opened, but a read of it failed, or it was found to have more bytes than are read.
pub data FileState : Type 0 where
  Unreadable : FileState
  Readable : Option (List ℕ) → FileState
  Unread : FileState
  Overlong : FileState

-- The same, and that the file can't be read whole, for either reason. So it is of a file if nobody takes note that it couldn't be read.
abbrev pub OrUnread : (FileState → Type 0) → FileState → Type 0
OrUnread finds Unread = ⊤
OrUnread finds Overlong = ⊤
OrUnread finds state = finds state

-- No more is known of any file afterwards (new) than before (old).
abbrev pub FindsNoMore : (List ℕ → FileState → Type 0) → (List ℕ → FileState → Type 0) → Type 0
FindsNoMore old new = (name : List ℕ) (state : FileState) → new name state → old name state

-- Each file that was refused by the end (new) is one of these, unless it was refused before (old).
abbrev pub RefusesOnly : (List ℕ → Type 0) → (List ℕ → Type 0) → (List ℕ → Type 0) → Type 0
RefusesOnly AreThese old new = (name : List ℕ) → new name → old name ⊎ AreThese name

-- These are all bytes of a file of which this may be known.
pub record AreBytesOf (finds : FileState → Type 0) (bytes : List ℕ) : Type 0 where
  pub found : Option (List ℕ)
  pub is_found : finds (Readable found)
  pub same : IfSome found (λ all. bytes ≡ all)

-- A file of which this may be known was found to have more bytes than are read: more than 2^40, if its bytes are known.
pub record IsTooLongFile (finds : FileState → Type 0) : Type 0 where
  pub overlong : finds Overlong
  pub found : Option (List ℕ)
  pub is_found : finds (Readable found)
  pub more : HasMoreThan found (2 ^ 40)

-- A file of which this may be known can't be opened, or a read of it failed.
abbrev pub IsUnreadFile : (FileState → Type 0) → Type 0
IsUnreadFile finds = finds Unreadable ⊎ finds Unread

-- ---- how often the file with a name was opened: at most so often before (old) and afterwards (new)

-- the file with this name was opened once more, or not, and no other
abbrev pub OpensOnce : List ℕ → (List ℕ → ℕ) → (List ℕ → ℕ) → Type 0
OpensOnce name old new = (other : List ℕ) → (new other ≤ old other) ⊎ ((name ≡ other) × (new other ≤ old other + 1))

-- each file that was opened meanwhile is one of these
abbrev pub OpensOnly : (List ℕ → Type 0) → (List ℕ → ℕ) → (List ℕ → ℕ) → Type 0
OpensOnly AreThese old new = (name : List ℕ) → (new name ≤ old name) ⊎ AreThese name
