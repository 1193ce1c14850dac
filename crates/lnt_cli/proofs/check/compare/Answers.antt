use Rattle.lnt_cli.proofs.check.compare.Goals as goal

pub returns-then-asked-clause-checked : goal.returns-then-asked-clause-checked
returns-then-asked-clause-checked g c = rw c.if-asked.true c.check_any_copy.ensures.checked

pub returns-then-asked-clause-of_section : goal.returns-then-asked-clause-of_section
returns-then-asked-clause-of_section g c = rw c.if-asked.true c.check_any_copy.ensures.of_section

pub returns-else-asked-clause-checked : goal.returns-else-asked-clause-checked
returns-else-asked-clause-checked g c = rw c.if-asked.false c.check_within.ensures.checked

pub returns-else-asked-clause-of_section : goal.returns-else-asked-clause-of_section
returns-else-asked-clause-of_section g c = rw c.if-asked.false c.check_within.ensures.of_section
