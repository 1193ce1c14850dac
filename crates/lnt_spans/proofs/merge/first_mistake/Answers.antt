use Rattle.std.proofs.Common.{subst}
use Rattle.lnt_spans.specs.declared.position.Position.{Position}
use Rattle.lnt_spans.specs.Remaining.{IsAhead}
use Rattle.lnt_spans.specs.Merged.{ArePassed}
use Rattle.lnt_spans.proofs.DerivedOrder.{at_most_from_not_lt, below_from_lt}
use Rattle.lnt_spans.proofs.MergedLemmas.{low_after, mistaken_gap, mistaken_other, passed_whole, passed_within}
use Rattle.lnt_spans.proofs.PositionLaws.{at_most_itself, below_is_at_most, same_position}
use Rattle.lnt_spans.proofs.merge.first_mistake.Goals as goal

pub loop-held-init : goal.loop-held-init
loop-held-init g c = (
  c.requires.sound,
  c.nothing-recalled.ensures c.args.held,
  below_is_at_most c.requires.holds,
  λ list by_table says passed. (at_most_itself c.args.low, passed),
)

pub returns-in_default-clause-sound : goal.returns-in_default-clause-sound
returns-in_default-clause-sound g c = c.loop-held.invariant.0

pub returns-in_default-clause-mistaken : goal.returns-in_default-clause-mistaken
returns-in_default-clause-mistaken g c list by_table says passed =
    let now = c.loop-held.invariant.3 list by_table says passed in
    mistaken_gap g.S.SpanSource.to_come (g.T.Telling.tell c.args.telling.now) list by_table c.loop-held.spans c.args.low c.args.high
    c.loop-held.at (g.T.Telling.said c.args.held) _ c.in_default.ensures now.0 (below_from_lt c.loop-held-test.ensures) says
    c.in_ok-mistake.ensures now.1

pub is_said-requires-clause-sound : goal.is_said-requires-clause-sound
is_said-requires-clause-sound g c = c.loop-held.invariant.0

pub is_said-requires-clause-recalled : goal.is_said-requires-clause-recalled
is_said-requires-clause-recalled g c = c.loop-held.invariant.1

pub returns-then-not-branch-clause-mistaken : goal.returns-then-not-branch-clause-mistaken
returns-then-not-branch-clause-mistaken g c list by_table says passed =
    let now = c.loop-held.invariant.3 list by_table says passed in
    mistaken_other g.S.SpanSource.to_come (g.T.Telling.tell c.args.telling.now) list by_table c.loop-held.spans c.args.low c.args.high
    c.loop-held.at (g.T.Telling.said c.args.held) c.in-Some.span _ c.in-Some.ensures.0 c.in-Some.ensures.1
    (rw c.if-not-branch.true at c.in_ok-is_said.ensures.same) now.0
    (below_from_lt c.loop-held-test.ensures) says c.in_ok-mistake-2.ensures now.1

pub returns-then-lt-clause-mistaken : goal.returns-then-lt-clause-mistaken
returns-then-lt-clause-mistaken g c list by_table says passed =
    let now = c.loop-held.invariant.3 list by_table says passed in
    passed_within g.S.SpanSource.to_come (g.T.Telling.tell c.args.telling.now) list by_table c.loop-held.spans c.args.low c.args.high
    c.loop-held.at (g.T.Telling.said c.args.held) c.in-Some.span c.in-Some.ensures.0 c.in-Some.ensures.1
    (rw c.if-not-branch.false at c.in_ok-is_said.ensures.same) now.0 (below_from_lt c.loop-held-test.ensures)
    (below_from_lt c.if-lt.ensures) says now.1

pub loop-held-preserved : goal.loop-held-preserved
loop-held-preserved g c = (
  c.in_ok-is_said.ensures.sound,
  c.in_ok-is_said.ensures.recalled,
  at_most_from_not_lt c.if-lt.ensures,
  λ list by_table says passed.
      let now = c.loop-held.invariant.3 list by_table says passed in (
        low_after g.S.SpanSource.to_come (g.T.Telling.tell c.args.telling.now) list by_table c.loop-held.spans c.args.low c.loop-held.at
            c.in-Some.span c.in-Some.ensures.0 now.0 now.1,
        passed_whole g.S.SpanSource.to_come (g.T.Telling.tell c.args.telling.now) list by_table c.loop-held.spans _ c.args.low c.args.high
            c.loop-held.at (g.T.Telling.said c.args.held) c.in-Some.span c.in-Some.ensures.0 c.in-Some.ensures.1
            (rw c.if-not-branch.false at c.in_ok-is_said.ensures.same) now.0
            (at_most_from_not_lt c.if-lt.ensures) c.pass.ensures.passed says now.1,
      ),
)

pub returns-clause-sound : goal.returns-clause-sound
returns-clause-sound g c = c.loop-held.invariant.0

pub returns-clause-mistaken : goal.returns-clause-mistaken
returns-clause-mistaken g c list by_table says passed =
    subst (λ (q : Position). ArePassed (g.T.Telling.tell c.args.telling.now) list by_table q
    (IsAhead g.S.SpanSource.to_come c.loop-held.spans))
    (same_position c.loop-held.at c.args.high (at_most_from_not_lt c.loop-held-test.ensures) c.loop-held.invariant.2)
    (c.loop-held.invariant.3 list by_table says passed).1
