use Rattle.std.proofs.Common.{[], arith}
use Rattle.lnt_records.proofs.HeaderLaws.{header_found}
use Rattle.lnt_csv.proofs.ReadingLaws.{no_record}
use Rattle.lnt_records.proofs.header.header_of.Goals as goal

pub returns-then-branch : goal.returns-then-branch
returns-then-branch g c v begins =
    let wide = c.in_ok-begins_wide.ensures c.if-branch.true (g.V.TableVersion.names v) begins in
    let few = c.requires v in
    omega (arith, few, wide)

pub returns-then-not-branch : goal.returns-then-not-branch
returns-then-not-branch g c v begins =
    no_record c.args.table.now (g.V.TableVersion.names v)
    (rw c.if-not-branch.true at c.in_ok-read_next.ensures.read c.args.table.now [] c.reader_of-reader.ensures) begins

pub returns : goal.returns
returns g c =
    header_found g.V.TableVersion.names c.of_record.result _ c.args.table.now _
    (rw c.if-not-branch.false at c.in_ok-read_next.ensures.read c.args.table.now [] c.reader_of-reader.ensures) c.of_record.ensures
