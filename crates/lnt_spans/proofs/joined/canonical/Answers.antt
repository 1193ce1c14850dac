use Rattle.std.proofs.Common.{arith}
use Rattle.std.proofs.lemmas.List.{drop_more, drop_all}
use Rattle.std.proofs.lemmas.Grind.{common_steps}
use Rattle.lnt_spans.proofs.JoinLemmas.{no_span, join_start, join_end, keep_join, keep_push}
use Rattle.lnt_spans.proofs.joined.canonical.Goals as goal
use Rattle.lnt_spans.proofs.joined.canonical.Goals.{then-joins, else-joins+in_ok-push}

pub loop-span-init : goal.loop-span-init
loop-span-init c = rw (c.new-joined.ensures.items, c.in_version-last.ensures) (join_start _ _ _ _ c.in-Some.ensures.cases.0 c.requires)

pub loop-span-preserved : goal.loop-span-preserved
loop-span-preserved c =
    let inv = rw (drop_more c.in-Some.rest.now c.loop-span.span-index no_span c.loop-span-test.true) at c.loop-span.invariant in
    elim c.if-joins.branch [
      | then-joins w ↦ rw (w.joined-is, w.last-is, c.in_version-next.ensures)
          (keep_join _ _ _ _ _ inv (rw c.in_version-next.ensures at w.if-joins.ensures))
      | else-joins+in_ok-push w ↦ rw (w.joined-is, w.last-is, w.in_ok-push.ensures.items, c.in_version-next.ensures)
          (keep_push _ _ _ _ _ inv (rw c.in_version-next.ensures at w.if-joins.ensures))
    ]

pub returns-clause-same : goal.returns-clause-same
returns-clause-same c =
    rw c.in_ok-push-2.ensures.items
    (join_end _ _ _ _ _ c.loop-span.invariant (drop_all c.loop-span.span-index c.in-Some.rest.now (omega (arith, c.loop-span-test.false))))

pub returns-clause-canonical : goal.returns-clause-canonical
returns-clause-canonical c = grind (arith, common_steps)

pub returns-in_default-clause-same : goal.returns-in_default-clause-same
returns-in_default-clause-same c = grind (arith, common_steps)
