use Rattle.std.proofs.Common.{rules}
use Rattle.std.proofs.lemmas.Result.{err_from_is_err_and}
use Rattle.lnt_header_bytes.proofs.ViewPutLemmas.{entries_done, entries_more, entries_refused, next_there, values_sound}
use Rattle.lnt_header_bytes.proofs.view_encode.add_entries_view.Goals as goal

pub add_values-requires : goal.add_values-requires
add_values-requires c = rw c.deref.ensures.value (values_sound _ _ _ _ _ _ _ _ _ _ c.format-from.ensures c.pairs-pairs.ensures
    c.count-end.ensures c.loop-test.true c.loop.invariant _ _ c.in-Ok.ensures.ok)

pub returns-in_err-add_values-in-Ok-clause-large : goal.returns-in_err-add_values-in-Ok-clause-large
returns-in_err-add_values-in-Ok-clause-large c =
    let p = err_from_is_err_and c.from_residual.result c.from_residual.ensures.1 in
    rw (p.1, p.2) (entries_refused c.args.table.now _ _ _ _ _ _ _ _ _ c.format-from.ensures c.pairs-pairs.ensures c.count-end.ensures
    c.loop-test.true c.loop.invariant _ _ c.in-Ok.ensures.ok _ (rw (← c.deref.ensures.value) c.in_err-add_values-in-Ok.ensures.large))

pub unreachable-requires : goal.unreachable-requires
unreachable-requires c = next_there _ _ _ _ _ _ _ _ _ _ c.format-from.ensures c.pairs-pairs.ensures c.count-end.ensures c.loop-test.true
    c.loop.invariant (c.in-Err.ensures.err c.in_default.not-Memory).none

pub loop-preserved : goal.loop-preserved
loop-preserved c = entries_more _ _ _ _ _ _ _ _ _ _ c.format-from.ensures c.pairs-pairs.ensures c.count-end.ensures c.loop-test.true
    c.loop.invariant _ _ c.in-Ok.ensures.ok _ (rw (← c.deref.ensures.value) c.in_ok-add_values-in-Ok.ensures.ok)

pub returns-clause-ok : goal.returns-clause-ok
returns-clause-ok c = search (rules, entries_done)
