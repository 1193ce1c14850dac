use Rattle.std.proofs.Common.{arith, rules}
use Rattle.lnt_dump.proofs.Entries.{none_there, read_all, read_more, read_none}
use Rattle.lnt_dump.proofs.header.print_entry_line.Goals as goal

pub unreachable-requires : goal.unreachable-requires
unreachable-requires g c = c.requires
    (none_there c.loop-pair.invariant _ c.loop-pair-test.true c.in_default.ensures.err.none)

pub returns : goal.returns
returns g c = read_all c.loop-pair.invariant _ _ c.in_ok-print_text.ensures (omega arith) c.in_ok-write_whole.ensures.whole

pub loop-pair-preserved : goal.loop-pair-preserved
loop-pair-preserved g c = search (rules, read_more)

pub loop-pair-init : goal.loop-pair-init
loop-pair-init g c = read_none c.args.format c.args.pairs.now c.args.cursor.now (g.W.Write.contents c.print_text.new.out)
