use Rattle.std.proofs.Common.{refl, List, rules, subst}
use Rattle.lnt_header.specs.declared.header.Pair.{Pair}
use Rattle.lnt_header_bytes.specs.Stepping.{PassesAll}
use Rattle.lnt_header_bytes.specs.TableBytes.{EntryBytes}
use Rattle.lnt_header_bytes.proofs.ViewLemmas.{table_read}
use Rattle.lnt_header_bytes.proofs.TableReaders.{refuses_count, refuses_empty, refuses_kinds, refuses_rest, refuses_size}
use Rattle.lnt_header_bytes.proofs.read_table.read_table.Goals as goal

pub returns-in-Ok-clause-ok : goal.returns-in-Ok-clause-ok
returns-in-Ok-clause-ok c =
    let middle = c.uleb.new.self in
    let size = c.in_ok-size.size in
    let passed : PassesAll size (EntryBytes c.args.format middle.order c.in_ok-pairs.pairs.items) c.in-Ok.bytes.now middle
    c.pass_entries.new.cursor =
    subst (λ (ps : List Pair). PassesAll size (EntryBytes c.args.format middle.order ps) c.in-Ok.bytes.now middle
    c.pass_entries.new.cursor) c.deref.ensures.value c.in-Ok.ensures.ok in
    table_read c.args.format c.in_ok-count.count size _ c.args.cursor.now c.u8.new.self c.read_pairs.new.cursor middle
    c.pass_entries.new.cursor c.in_ok-count.ensures.ok c.in_ok-pairs.ensures.ok c.in_ok-size.ensures.ok (λ none. search rules) refl passed

pub returns-in-Err-clause-err : goal.returns-in-Err-clause-err
returns-in-Err-clause-err c = search (rules, refuses_rest)

pub returns-in_err-count-clause-err : goal.returns-in_err-count-clause-err
returns-in_err-count-clause-err c = search (rules, refuses_count)

pub returns-in_err-pairs-clause-err : goal.returns-in_err-pairs-clause-err
returns-in_err-pairs-clause-err c = search (rules, refuses_kinds, c.in_err-pairs.ensures.err)

pub returns-in_err-size-clause-err : goal.returns-in_err-size-clause-err
returns-in_err-size-clause-err c = search (rules, refuses_size)

pub returns-then-size-gt0-clause-err : goal.returns-then-size-gt0-clause-err
returns-then-size-gt0-clause-err c = search (rules, refuses_empty)
