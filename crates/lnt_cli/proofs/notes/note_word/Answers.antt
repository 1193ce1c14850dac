use Rattle.lnt_notes.proofs.NoteLemmas.{notes_written}
use Rattle.lnt_cli.proofs.notes.note_word.Goals as goal

pub returns-in-BadWord-default-default-false : goal.returns-in-BadWord-default-default-false
returns-in-BadWord-default-default-false g c = notes_written _ _ _ c.print_note.ensures.notes
