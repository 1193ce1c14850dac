use Rattle.lnt_spans.proofs.DerivedOrder.{at_most_from_ge, below_from_not_ge}
use Rattle.lnt_spans.proofs.PositionLaws.{at_most_trans, below_at_most, below_is_at_most}
use Rattle.lnt_table.proofs.SaidLemmas.{ends_later, says_first, says_on, says_without}
use Rattle.lnt_table.proofs.SaidLemmas.{unsaid_after, unsaid_below, unsaid_within, whole_later}
use Rattle.lnt_table.proofs.said.SequenceSpans.said_from.Goals as goal

pub loop-self-init : goal.loop-self-init
loop-self-init g c = record {
  kept = λ whole answers upto h.
      says_on g.S.SpanSource.to_come _ _ _ c.args.at whole answers h _ (at_most_trans c.requires upto) c.pass_to.ensures.kept;
  ends = λ whole answers upto h. c.pass_to.ensures.ends;
}

pub returns-then-ge-clause-unsaid : goal.returns-then-ge-clause-unsaid
returns-then-ge-clause-unsaid g c whole answers h p le lt =
    let wider = whole_later g.S.SpanSource.to_come _ _ _ c.args.at whole answers h c.args.end in
    let now = c.loop-self.invariant.kept wider.0 answers wider.1 wider.2 in
    unsaid_below g.S.SpanSource.to_come _ _ _ c.args.at wider.0 answers now c.in-Some.span c.in-Some.is c.later-low.result p
    c.later-low.ensures.either le (below_at_most lt (at_most_from_ge c.if-ge.ensures))

pub returns-then-branch-clause-unsaid : goal.returns-then-branch-clause-unsaid
returns-then-branch-clause-unsaid g c whole answers h p le lt =
    let wider = whole_later g.S.SpanSource.to_come _ _ _ c.args.at whole answers h c.args.end in
    let now = c.loop-self.invariant.kept wider.0 answers wider.1 wider.2 in
    unsaid_below g.S.SpanSource.to_come _ _ _ c.args.at wider.0 answers now c.in-Some.span c.in-Some.is c.later-low.result p
    c.later-low.ensures.either le lt

pub returns-then-branch-clause-said : goal.returns-then-branch-clause-said
returns-then-branch-clause-said g c below whole answers h =
    let wider = whole_later g.S.SpanSource.to_come _ _ _ c.args.at whole answers h c.args.end in
    let now = c.loop-self.invariant.kept wider.0 answers wider.1 wider.2 in
    let ends = c.loop-self.invariant.ends wider.0 answers wider.1 wider.2 in
    says_first g.S.SpanSource.to_come _ _ _ c.args.at wider.0 answers now c.in-Some.span c.in-Some.is c.later-low.result
    c.later-low.ensures.either c.later-low.ensures.past.0 c.later-low.ensures.past.1 (rw c.in-Some.is at ends)
    (rw c.if-branch.true at c.in_ok-is_that.ensures)

pub returns-then-ge-2-clause-unsaid : goal.returns-then-ge-2-clause-unsaid
returns-then-ge-2-clause-unsaid g c whole answers h p le lt =
    let wider = whole_later g.S.SpanSource.to_come _ _ _ c.args.at whole answers h c.args.end in
    let now = c.loop-self.invariant.kept wider.0 answers wider.1 wider.2 in
    unsaid_within g.S.SpanSource.to_come _ _ _ c.args.at wider.0 answers now c.in-Some.span c.in-Some.is p
    (rw c.if-branch.false at c.in_ok-is_that.ensures) le (below_at_most lt (at_most_from_ge c.if-ge-2.ensures))

pub loop-self-preserved : goal.loop-self-preserved
loop-self-preserved g c =
    let inv = c.loop-self.invariant in
    record {
      kept = λ whole answers upto h. says_without g.S.SpanSource.to_come _ _ _ c.args.at whole answers (inv.kept whole answers upto h) _
          c.in-Some.span c.in-Some.is (at_most_trans (below_is_at_most (below_from_not_ge c.if-ge-2.ensures)) upto)
          (rw c.if-branch.false at c.in_ok-is_that.ensures) c.pass.ensures.gives;
      ends = λ whole answers upto h.
          (let ends = inv.ends whole answers upto h in
          ends_later g.S.SpanSource.to_come _ _ _ _ c.args.at whole answers (inv.kept whole answers upto h) c.in-Some.span c.in-Some.is
          (rw c.in-Some.is at ends) c.pass.ensures.gives);
    }

pub returns-clause-unsaid : goal.returns-clause-unsaid
returns-clause-unsaid g c whole answers h p le lt =
    let wider = whole_later g.S.SpanSource.to_come _ _ _ c.args.at whole answers h c.args.end in
    let now = c.loop-self.invariant.kept wider.0 answers wider.1 wider.2 in
    unsaid_after g.S.SpanSource.to_come _ _ _ c.args.at wider.0 answers now p c.in_default.is le
