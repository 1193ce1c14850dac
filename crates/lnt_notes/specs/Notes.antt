-- Notes that were printed, one after another.
--     old, new    what their writer holds before and afterwards
use Rattle.std.specs.Prelude.{◌≡◌, ◌==◌, ◌++◌, ℕ, List, MatchResult, Option, Result, codes, false, flat_map}
use Rattle.std.specs.List.{AllByRecursion, concat, list_any}
use Rattle.std.specs.Io.KnownBytes.{Appends}
use Rattle.lnt_io.specs.Prefixes.{AppendsPrefix}
use Rattle.lnt_text.specs.declared.note.Note.{Note}
use Rattle.lnt_text.specs.Notes.{note_line}

-- What was written is the complete lines of some notes, and nothing else.
pub record AddsNotes (old new : Option (List ℕ)) : Type 0 where
  pub notes : List Note
  pub added : Appends old new (flat_map note_line notes)

-- What was written is a prefix of the lines of some notes, and nothing else.
pub record BeginsNotes (old new : Option (List ℕ)) : Type 0 where
  pub notes : List Note
  pub begun : AppendsPrefix old new (flat_map note_line notes)

-- What was written is lines of notes, and nothing else; they are complete unless the call failed.
abbrev pub TellsNotes : {E : Type 0} → Result (Unit {0}) E → Option (List ℕ) → Option (List ℕ) → Type 0
TellsNotes result old new = MatchResult result (λ _. AddsNotes old new) (λ _. BeginsNotes old new)

-- ---- notes of any text

-- the line of the note with this text
abbrev pub line_of : List ℕ → List ℕ
line_of text = codes "linetab: note: " ++ (text ++ codes "\n")

-- no byte of the text is a line feed
abbrev pub IsOneLine : List ℕ → Type 0
IsOneLine text = list_any (λ byte. byte == 10) text ≡ false

-- This is the line of a note. Its only line feed is at its end.
pub record IsNoteLine (line : List ℕ) : Type 0 where
  pub text : List ℕ
  pub one_line : IsOneLine text
  pub whole : line ≡ line_of text

-- What was written is lines of notes, and nothing else; the last of them may be cut.
pub record WritesNotes (old new : Option (List ℕ)) : Type 0 where
  pub lines : List (List ℕ)
  pub are_notes : AllByRecursion IsNoteLine lines
  pub begun : AppendsPrefix old new (concat lines)
