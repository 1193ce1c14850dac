use Rattle.std.proofs.Common.{◌∙◌, ◌+◌, ◌^◌, ◌<◌, arith, rules, subst, sym}
use Rattle.lnt_io.proofs.PrefixLaws.{so_stopped}
use Rattle.lnt_ops.specs.Walks.{Walk}
use Rattle.lnt_dump.proofs.Pages.{paged_none}
use Rattle.lnt_dump.proofs.RunWalks.{RowsPrinted, rows_all, rows_cut, rows_more, rows_none, rows_quiet, rows_room}
use Rattle.lnt_dump.proofs.RunWalks.{running_allowed, running_in}
use Rattle.lnt_machine.proofs.RanLaws.{fails_op, gives_op}
use Rattle.lnt_dump.proofs.UnitWalks.{stands_fails, stands_first}
use Rattle.lnt_dump.proofs.rows.print_rows.Goals as goal

pub returns-then-not-is_shown-clause-ok : goal.returns-then-not-is_shown-clause-ok
returns-then-not-is_shown-clause-ok g c =
    rw c.if-not-is_shown.true (λ ops is. paged_none c.args.page.now.items (g.W.Write.contents c.args.out.now))

pub loop-op-init : goal.loop-op-init
loop-op-init g c =
    λ ops is. subst (λ (w : Walk). RowsPrinted c.args.unit.now ops 0 w c.new-run.result c.args.page.now.items c.args.page.now.items
    (g.W.Write.contents c.args.out.now) (g.W.Write.contents c.args.out.now)) (sym c.into_iter-op-iterator.ensures.into_iter_gives)
    (rows_none c.args.page.now.items (g.W.Write.contents c.args.out.now)
    (stands_first c.args.unit.now ops c.ops-op-items.result c.ops-op-items.ensures.is_view is c.ops-op-items.ensures.header
    c.ops-op-items.ensures.rest c.ops-op-items.ensures.going) (c.new-run.ensures.header ∙ c.numbers.ensures) c.new-run.ensures.done
    c.new-run.ensures.count)

pub unreachable-requires : goal.unreachable-requires
unreachable-requires g c =
    let fails = fails_op c.in_default.is c.in-Some.ensures.steps in
    stands_fails (c.loop-op.invariant c.requires.0 c.requires.1).running.at fails

pub step-requires : goal.step-requires
step-requires g c =
    let step = gives_op c.in-Ok.is c.in-Some.ensures.steps in
    running_allowed c.ops-op-items.ensures.is_header (c.loop-op.invariant c.requires.0 c.requires.1).running step

pub unreachable-requires-in_default-step : goal.unreachable-requires-in_default-step
unreachable-requires-in_default-step g c =
    let step = gives_op c.in-Ok.is c.in-Some.ensures.steps in
    running_in c.ops-op-items.ensures.is_header (c.loop-op.invariant c.requires.0 c.requires.1).running step (c.requires.2 (search rules))
    c.in_default-step.ensures.out_of_range c.in_default-step.ensures.fault

pub returns-in_err-print_row-clause-prefix : goal.returns-in_err-print_row-clause-prefix
returns-in_err-print_row-clause-prefix g c =
    let step = gives_op c.in-Ok.is c.in-Some.ensures.steps in
    rw c.if-not-is_shown.false (so_stopped c.from_residual.result _ (λ ops is. rows_cut c.ops-op-items.ensures.is_header
    c.ops-op-items.ensures.is_view (c.loop-op.invariant ops is) step c.in-Ok-step.ensures.ok c.in-Some-made.is
    c.in_err-print_row.ensures.prefix))

pub overflow_add-index : goal.overflow_add-index
overflow_add-index g c =
    let step = gives_op c.in-Ok.is c.in-Some.ensures.steps in
    let room : c.loop-op.index + 1 < 2 ^ 64 = rows_room c.ops-op-items.ensures.is_header c.ops-op-items.ensures.is_view
    (c.loop-op.invariant c.requires.0 c.requires.1) step c.in-Ok-step.ensures.ok in
    omega (arith, room)

pub loop-op-preserved-in-Some-made : goal.loop-op-preserved-in-Some-made
loop-op-preserved-in-Some-made g c =
    let step = gives_op c.in-Ok.is c.in-Some.ensures.steps in
    λ ops is. rows_more c.ops-op-items.ensures.is_header c.ops-op-items.ensures.is_view (c.loop-op.invariant ops is) step
    c.in-Ok-step.ensures.ok c.in-Some-made.is c.in_ok-print_row.ensures.ok

pub loop-op-preserved : goal.loop-op-preserved
loop-op-preserved g c =
    let step = gives_op c.in-Ok.is c.in-Some.ensures.steps in
    λ ops is. rows_quiet c.ops-op-items.ensures.is_header c.ops-op-items.ensures.is_view (c.loop-op.invariant ops is)
    step c.in-Ok-step.ensures.ok c.in_default-made.not-Some

pub returns-clause-ok : goal.returns-clause-ok
returns-clause-ok g c =
    rw c.if-not-is_shown.false (λ ops is. rows_all (c.loop-op.invariant ops is) c.in-None.ensures.steps)
