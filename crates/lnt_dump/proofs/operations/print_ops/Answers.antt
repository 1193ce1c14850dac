use Rattle.std.proofs.Common.{◌+◌, ◌^◌, ◌<◌, arith, subst, sym}
use Rattle.lnt_io.proofs.PrefixLaws.{so_stopped}
use Rattle.lnt_ops.specs.Walks.{Walk}
use Rattle.lnt_machine.proofs.RanLaws.{fails_op, gives_op}
use Rattle.lnt_dump.proofs.Pages.{paged_none}
use Rattle.lnt_dump.proofs.UnitWalks.{OpsPrinted, ops_all, ops_cut, ops_more, ops_none, stands_fails, stands_first, stands_room}
use Rattle.lnt_dump.proofs.operations.print_ops.Goals as goal

pub returns-then-not-is_shown-clause-ok : goal.returns-then-not-is_shown-clause-ok
returns-then-not-is_shown-clause-ok g c =
    rw c.if-not-is_shown.true (λ ops is. paged_none c.args.page.now.items (g.W.Write.contents c.args.out.now))

pub loop-op-init : goal.loop-op-init
loop-op-init g c =
    λ ops is. subst
    (λ (w : Walk). OpsPrinted c.args.unit.now ops 0 w c.args.page.now.items c.args.page.now.items (g.W.Write.contents c.args.out.now)
    (g.W.Write.contents c.args.out.now)) (sym c.into_iter-op-iterator.ensures.into_iter_gives)
    (ops_none c.args.page.now.items (g.W.Write.contents c.args.out.now)
    (stands_first c.args.unit.now ops c.ops-op-items.result c.ops-op-items.ensures.is_view is c.ops-op-items.ensures.header
    c.ops-op-items.ensures.rest c.ops-op-items.ensures.going))

pub unreachable-requires : goal.unreachable-requires
unreachable-requires g c =
    let fails = fails_op c.in_default.is c.in-Some.ensures.steps in
    stands_fails (c.loop-op.invariant c.requires.0 c.requires.1).at fails

pub returns-in_err-print_op-clause-prefix : goal.returns-in_err-print_op-clause-prefix
returns-in_err-print_op-clause-prefix g c =
    let step = gives_op c.in-Ok.is c.in-Some.ensures.steps in
    rw c.if-not-is_shown.false (so_stopped c.from_residual.result _
    (λ ops is. ops_cut c.ops-op-items.ensures.is_header (c.loop-op.invariant ops is) step c.in_err-print_op.ensures.prefix))

pub overflow_add-index : goal.overflow_add-index
overflow_add-index g c =
    let step = gives_op c.in-Ok.is c.in-Some.ensures.steps in
    let room : c.loop-op.index + 1 < 2 ^ 64 =
    stands_room c.ops-op-items.ensures.is_view (c.loop-op.invariant c.requires.0 c.requires.1).at step in
    omega (arith, room)

pub loop-op-preserved : goal.loop-op-preserved
loop-op-preserved g c =
    let step = gives_op c.in-Ok.is c.in-Some.ensures.steps in
    λ ops is. ops_more c.ops-op-items.ensures.is_header (c.loop-op.invariant ops is) step c.in_ok-print_op.ensures.ok

pub returns-clause-ok : goal.returns-clause-ok
returns-clause-ok g c =
    rw c.if-not-is_shown.false (λ ops is. ops_all (c.loop-op.invariant ops is) c.in-None.ensures.steps)
