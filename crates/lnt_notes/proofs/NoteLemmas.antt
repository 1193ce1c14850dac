-- Notes that were told, one after another.
use Rattle.std.proofs.Common.{◌≡◌, ℕ, List, Option, [], ◌∷◌, ◌++◌, append-nil, ap, flat_map, map, refl, subst, sym}
use Rattle.std.proofs.Common.{OnErr, OnOk, Result, Ok, Err}
use Rattle.std.specs.List.{AllByRecursion, concat}
use Rattle.std.specs.Io.KnownBytes.{Appends}
use Rattle.std.proofs.KnownBytes.{Appends-trans}
use Rattle.std.proofs.lemmas.List.Concat.{flat_map-append}
use Rattle.lnt_io.specs.Prefixes.{AppendsPrefix}
use Rattle.lnt_io.proofs.PrefixLaws.{prefix_after, prefix_all, prefix_none, prefix_same}
use Rattle.lnt_text.specs.declared.note.Note.{Note}
use Rattle.lnt_text.specs.Notes.{note_line, note_text}
use Rattle.lnt_notes.specs.Notes.{AddsNotes, BeginsNotes, IsNoteLine, IsOneLine, TellsNotes, WritesNotes, line_of}
use Rattle.lnt_notes.proofs.TextLemmas.{note_one_line}

one_note : (old new : Option (List ℕ)) (note : Note) → Appends old new (note_line note) → AddsNotes old new
one_note old new note added = record {
  notes = note ∷ [];
  added = subst (λ (bytes : List ℕ). Appends old new bytes) (sym (append-nil (note_line note))) added;
}

more_notes : (a b c : Option (List ℕ)) → AddsNotes a b → AddsNotes b c → AddsNotes a c
more_notes a b c some more = record {
  notes = some.notes ++ more.notes;
  added =
      subst (λ (bytes : List ℕ). Appends a c bytes) (sym (flat_map-append note_line some.notes more.notes))
      (Appends-trans a b c (flat_map note_line some.notes) (flat_map note_line more.notes) some.added more.added);
}

more_begun : (a b c : Option (List ℕ)) → AddsNotes a b → BeginsNotes b c → BeginsNotes a c
more_begun a b c some more = record {
  notes = some.notes ++ more.notes;
  begun =
      prefix_same a c _ _ (sym (flat_map-append note_line some.notes more.notes))
      (prefix_after a b c (flat_map note_line some.notes) (flat_map note_line more.notes) some.added more.begun);
}

-- where a line was printed, a note was told
pub line_told : {E : Type 0} (result : Result (Unit {0}) E) (old new : Option (List ℕ)) (note : Note)
    → OnOk result (Appends old new (note_line note)) → OnErr result (AppendsPrefix old new (note_line note)) → TellsNotes result old new
line_told (Ok done) old new note printed begun = one_note old new note printed
line_told (Err stop) old new note printed begun =
    record { notes = note ∷ []; begun = prefix_same old new _ _ (sym (append-nil (note_line note))) begun }

-- what a call tells after others, all of them tell
pub told_after : {E : Type 0} (result : Result (Unit {0}) E) (a b c : Option (List ℕ)) → AddsNotes a b → TellsNotes result b c
    → TellsNotes result a c
told_after (Ok done) a b c some more = more_notes a b c some more
told_after (Err stop) a b c some more = more_begun a b c some more

-- ---- lines of any notes

lines_of_notes : (notes : List Note) → AllByRecursion IsNoteLine (map note_line notes)
lines_of_notes [] = tt
lines_of_notes (note ∷ notes) = (record { text = note_text note; one_line = note_one_line note; whole = refl }, lines_of_notes notes)

joined_lines : (notes : List Note) → flat_map note_line notes ≡ concat (map note_line notes)
joined_lines [] = refl
joined_lines (note ∷ notes) = ap (λ (lines : List ℕ). note_line note ++ lines) (joined_lines notes)

written_of : (notes : List Note) (old new : Option (List ℕ)) → AppendsPrefix old new (flat_map note_line notes) → WritesNotes old new
written_of notes old new begun = record {
  lines = map note_line notes;
  are_notes = lines_of_notes notes;
  begun = prefix_same old new _ _ (joined_lines notes) begun;
}

-- what was told of notes is lines of notes
pub notes_written : {E : Type 0} (result : Result (Unit {0}) E) (old new : Option (List ℕ)) → TellsNotes result old new
    → WritesNotes old new
notes_written (Ok done) old new told = written_of told.notes old new (prefix_all old new _ told.added)
notes_written (Err stop) old new told = written_of told.notes old new told.begun

-- the same of a line with any text of one line
pub line_written : {E : Type 0} (result : Result (Unit {0}) E) (old new : Option (List ℕ)) (text : List ℕ) → IsOneLine text
    → OnOk result (Appends old new (line_of text)) → OnErr result (AppendsPrefix old new (line_of text)) → WritesNotes old new
line_written result old new text one_line printed begun = record {
  lines = line_of text ∷ [];
  are_notes = (record { text = text; one_line = one_line; whole = refl }, tt);
  begun = prefix_same old new _ _ (sym (append-nil (line_of text))) (either result printed begun);
}
  where
    either : {E : Type 0} (result : Result (Unit {0}) E) → OnOk result (Appends old new (line_of text))
        → OnErr result (AppendsPrefix old new (line_of text)) → AppendsPrefix old new (line_of text)
    either (Ok done) printed begun = prefix_all old new _ printed
    either (Err stop) printed begun = begun

-- nothing was written
pub none_written : (old : Option (List ℕ)) → WritesNotes old old
none_written old = written_of [] old old (prefix_none old [])
