use Rattle.lnt_notes.proofs.NoteLemmas.{none_written}
use Rattle.lnt_cli.proofs.program.answer.Goals.{then-not-asked, else-not-asked}
use Rattle.lnt_cli.proofs.program.answer.Goals as goal

pub returns-clause-notes : goal.returns-clause-notes
returns-clause-notes g c =
    elim c.if-not-asked.branch [
      | then-not-asked w ↦ rw w.notes-is w.print_notes.ensures
      | else-not-asked w ↦ rw w.notes-is (none_written _)
    ]
