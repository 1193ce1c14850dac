use Rattle.std.proofs.lemmas.Result.{on_err_weaker, on_ok_weaker}
use Rattle.lnt_io.proofs.PrefixLaws.{so_stopped}
use Rattle.lnt_records.proofs.WriteLaws.{all_lines, begun_all, begun_more, begun_none, begun_until, line_more, no_span}
use Rattle.lnt_records.proofs.write.write_spans.Goals as goal

pub loop-span-preserved : goal.loop-span-preserved
loop-span-preserved g c =
    let version = c.requires.version c.loop-span.span-index no_span c.loop-span-test.true in
    let added = c.in_ok-put_span.ensures c.args.version version in
    let handed = c.in_ok-send_full.ensures.handed in
    line_more _ _ _ _ _ _ _ handed.0 c.args.spans.now c.loop-span.span-index no_span c.loop-span-test.true c.loop-span.invariant added
    handed.1 handed.2

pub returns-clause-table : goal.returns-clause-table
returns-clause-table g c =
    on_ok_weaker c.send.result
    (λ handed. all_lines _ _ _ _ _ c.args.spans.now c.loop-span.span-index c.loop-span-test.false c.requires.order c.loop-span.invariant
    handed)
    c.send.ensures.handed

pub returns-clause-begun : goal.returns-clause-begun
returns-clause-begun g c =
    on_err_weaker c.send.result
    (begun_all _ _ _ _ _ c.args.spans.now c.loop-span.span-index c.loop-span-test.false c.loop-span.invariant)
    c.send.ensures.prefix

pub returns-in_err-put_header-clause-begun : goal.returns-in_err-put_header-clause-begun
returns-in_err-put_header-clause-begun g c =
    so_stopped c.from_residual.result _ (begun_none c.args.version c.args.spans.now _)

pub returns-in_err-put_span-clause-begun : goal.returns-in_err-put_span-clause-begun
returns-in_err-put_span-clause-begun g c =
    so_stopped c.from_residual-in_err-put_span.result _
    (begun_until _ _ _ _ c.args.spans.now c.loop-span.span-index c.loop-span.invariant)

pub returns-in_err-send_full-clause-begun : goal.returns-in_err-send_full-clause-begun
returns-in_err-send_full-clause-begun g c =
    let version = c.requires.version c.loop-span.span-index no_span c.loop-span-test.true in
    let added = c.in_ok-put_span.ensures c.args.version version in
    so_stopped c.from_residual-in_err-send_full.result _
    (begun_more _ _ _ _ _ _ c.args.spans.now c.loop-span.span-index no_span c.loop-span-test.true c.loop-span.invariant added
    c.in_err-send_full.ensures.prefix)
