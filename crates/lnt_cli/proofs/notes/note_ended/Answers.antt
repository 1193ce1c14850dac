use Rattle.lnt_notes.proofs.NoteLemmas.{notes_written}
use Rattle.lnt_cli.proofs.notes.note_ended.Goals as goal

pub returns-in_default : goal.returns-in_default
returns-in_default g c = notes_written _ _ _ c.note_answer.ensures
