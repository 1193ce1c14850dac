use Rattle.lnt_older.proofs.WritingLaws.{can_next}
use Rattle.lnt_older.proofs.section.upgrade_next.Goals as goal

pub append_unit-requires-clause-next : goal.append_unit-requires-clause-next
append_unit-requires-clause-next c = can_next c.args.address_size c.args.directories.now c.args.cursor.now c.requires.left c.requires.some
