use Rattle.std.proofs.Common.{arith}
use Rattle.std.proofs.lemmas.Result.{err_from_is_err_and}
use Rattle.lnt_header_bytes.specs.TableBytes.{EntryBytes}
use Rattle.lnt_header_bytes.proofs.TableReaders.{one_more, refuses_entries}
use Rattle.lnt_header_bytes.proofs.table.read_entries.Goals as goal

pub returns-in_err-read_entry-clause-err : goal.returns-in_err-read_entry-clause-err
returns-in_err-read_entry-clause-err c =
    let p = err_from_is_err_and c.from_residual-in_err-read_entry.result c.from_residual-in_err-read_entry.ensures.1 in
    let fault = c.in_err-read_entry.field-0.0 in
    rw (p.1, p.2) (λ some.
    refuses_entries c.args.format c.args.pairs.now c.args.count c.loop.entries.items c.args.cursor.now c.loop.cursor fault
    c.loop.invariant.1 (omega (arith, c.loop.invariant.0, c.loop-test.true)) (c.in_err-read_entry.ensures.err some))

pub loop-preserved : goal.loop-preserved
loop-preserved c =
    let more = one_more (λ order. EntryBytes c.args.format order c.args.pairs.now) _ _ _ _ _ c.loop.invariant.1
    c.in_ok-read_entry.ensures.ok in
    (omega (arith, more.0, c.loop.invariant.0), more.1)
