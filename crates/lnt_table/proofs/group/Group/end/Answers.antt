use Rattle.lnt_spans.proofs.DerivedOrder.{at_most_from_not_lt}
use Rattle.lnt_spans.proofs.PositionLaws.{at_most_trans}
use Rattle.lnt_table.proofs.GroupLemmas.{begins_from}
use Rattle.lnt_table.proofs.group.Group.end.Goals as goal

pub returns-then-lt-clause-later : goal.returns-then-lt-clause-later
returns-then-lt-clause-later c turn k d le lt = begins_from c.args.self.now.extents.now c.args.self.now.begun _ turn k d le lt

pub returns-else-lt-clause-later : goal.returns-else-lt-clause-later
returns-else-lt-clause-later c turn k d le lt =
    at_most_trans (at_most_from_not_lt c.if-lt.ensures)
    (begins_from c.args.self.now.extents.now c.args.self.now.begun _ turn k d le lt)
