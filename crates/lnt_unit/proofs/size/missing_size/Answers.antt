use Rattle.lnt_unit.proofs.size.missing_size.Goals as goal

pub returns-clause-whole : goal.returns-clause-whole
returns-clause-whole c = rw (← c.new.ensures.rest, ← c.new.ensures.order) c.missing_at.ensures.whole
