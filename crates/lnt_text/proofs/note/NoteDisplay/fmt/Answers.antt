use Rattle.lnt_text.proofs.note.NoteDisplay.fmt.Goals as goal

pub returns-in-MaybeDead-clause-writes : goal.returns-in-MaybeDead-clause-writes
returns-in-MaybeDead-clause-writes g c =
    rw c.in-MaybeDead.is (rw (c.in_radix.ensures, c.in_radix-in-MaybeDead.ensures) at c.write-in-MaybeDead.ensures.writes)
