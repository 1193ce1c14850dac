use Rattle.lnt_notes.proofs.NoteLemmas.{line_told}
use Rattle.lnt_notes.proofs.note.print_note.Goals as goal

pub returns-clause-notes : goal.returns-clause-notes
returns-clause-notes g c = line_told _ _ _ c.args.note c.print_text.ensures.line c.print_text.ensures.prefix
