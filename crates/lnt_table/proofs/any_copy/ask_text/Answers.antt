use Rattle.lnt_table.proofs.any_copy.ask_text.Goals as goal

pub returns : goal.returns
returns c selection is live = (rw c.in_default.is at c.in_ok-version.ensures, c.in_ok-read-2.ensures selection is live)
