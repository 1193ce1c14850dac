use Rattle.lnt_table.proofs.kept.ByPathKeptStretchesDifferenceByPath.first_turn.Goals as goal

pub returns-clause-found : goal.returns-clause-found
returns-clause-found g c selection is live = rw c.in-Some.is (c.in_ok-found.ensures.found selection is live)
