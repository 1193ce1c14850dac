use Rattle.lnt_older.proofs.TableLemmas.{first_file_there}
use Rattle.lnt_older.proofs.upgrade.file_zero.Goals as goal

pub unreachable-requires : goal.unreachable-requires
unreachable-requires c =
    first_file_there c.args.format c.args.order c.args.listed.count c.args.listed.bytes.now c.new-cursor.result c.requires
    c.if-listed-eq0.false c.new-cursor.ensures.rest c.new-cursor.ensures.order c.in-Err.ensures.err.none
