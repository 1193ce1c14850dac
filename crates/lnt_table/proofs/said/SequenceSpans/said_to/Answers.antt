use Rattle.std.proofs.Common.{inl, refl}
use Rattle.lnt_spans.proofs.DerivedOrder.{at_most_from_not_lt, below_from_lt}
use Rattle.lnt_spans.proofs.PositionLaws.{at_most_itself, at_most_trans, below_at_most, below_is_at_most, not_both}
use Rattle.lnt_table.proofs.SaidLemmas.{left_alone, passed_on, said_since, says_later, says_on, says_passed, says_within}
use Rattle.lnt_table.proofs.SaidLemmas.{unsaid_after, unsaid_below, unsaid_within}
use Rattle.lnt_table.proofs.said.SequenceSpans.said_to.Goals as goal

pub returns-in_default-clause-unsaid : goal.returns-in_default-clause-unsaid
returns-in_default-clause-unsaid g c le lt whole answers h =
    let now = said_since g.S.SpanSource.to_come _ _ _ _ c.args.at c.args.end whole answers c.requires c.pass_to.ensures.kept h in
    unsaid_after g.S.SpanSource.to_come _ _ _ c.args.at now.0 answers now.2 c.args.at c.in_default.is (at_most_itself c.args.at)

pub returns-in_default-clause-kept : goal.returns-in_default-clause-kept
returns-in_default-clause-kept g c whole answers upto h =
    says_on g.S.SpanSource.to_come _ _ _ c.args.at whole answers h _ (at_most_trans c.requires upto) c.pass_to.ensures.kept

pub returns-in_default-clause-upto : goal.returns-in_default-clause-upto
returns-in_default-clause-upto g c = c.requires

pub returns-then-lt-clause-unsaid : goal.returns-then-lt-clause-unsaid
returns-then-lt-clause-unsaid g c le lt whole answers h =
    let now = said_since g.S.SpanSource.to_come _ _ _ _ c.args.at c.args.end whole answers c.requires c.pass_to.ensures.kept h in
    unsaid_below g.S.SpanSource.to_come _ _ _ c.args.at now.0 answers now.2 c.in-Some.span c.in-Some.is c.in-Some.span.low c.args.at
    (inl refl) (at_most_itself c.args.at) (below_from_lt c.if-lt.ensures)

pub returns-then-lt-clause-kept : goal.returns-then-lt-clause-kept
returns-then-lt-clause-kept g c whole answers upto h =
    says_on g.S.SpanSource.to_come _ _ _ c.args.at whole answers h _ (at_most_trans c.requires upto) c.pass_to.ensures.kept

pub returns-then-lt-clause-upto : goal.returns-then-lt-clause-upto
returns-then-lt-clause-upto g c = c.requires

pub returns-then-not-branch-clause-unsaid : goal.returns-then-not-branch-clause-unsaid
returns-then-not-branch-clause-unsaid g c le lt whole answers h =
    let now = said_since g.S.SpanSource.to_come _ _ _ _ c.args.at c.args.end whole answers c.requires c.pass_to.ensures.kept h in
    unsaid_within g.S.SpanSource.to_come _ _ _ c.args.at now.0 answers now.2 c.in-Some.span c.in-Some.is c.args.at
    (rw c.if-not-branch.true at c.in_ok-is_that.ensures) (at_most_itself c.args.at) (rw c.in-Some.is at c.pass_to.ensures.ends)

pub returns-then-not-branch-clause-kept : goal.returns-then-not-branch-clause-kept
returns-then-not-branch-clause-kept g c whole answers upto h =
    says_on g.S.SpanSource.to_come _ _ _ c.args.at whole answers h _ (at_most_trans c.requires upto) c.pass_to.ensures.kept

pub returns-then-not-branch-clause-upto : goal.returns-then-not-branch-clause-upto
returns-then-not-branch-clause-upto g c = c.requires

pub returns-then-lt-2-clause-past : goal.returns-then-lt-2-clause-past
returns-then-lt-2-clause-past g c = c.requires

pub returns-then-lt-2-clause-upto : goal.returns-then-lt-2-clause-upto
returns-then-lt-2-clause-upto g c = at_most_itself c.args.end

pub returns-then-lt-2-clause-kept : goal.returns-then-lt-2-clause-kept
returns-then-lt-2-clause-kept g c whole answers upto h =
    says_later g.S.SpanSource.to_come _ _ _ c.args.at whole answers
    (says_on g.S.SpanSource.to_come _ _ _ c.args.at whole answers h _ (at_most_trans c.requires upto) c.pass_to.ensures.kept)
    c.args.end c.requires

pub returns-then-lt-2-clause-said : goal.returns-then-lt-2-clause-said
returns-then-lt-2-clause-said g c whole answers h p from below =
    let now = said_since g.S.SpanSource.to_come _ _ _ _ c.args.at c.args.end whole answers c.requires c.pass_to.ensures.kept h in
    says_within g.S.SpanSource.to_come _ _ _ c.args.at now.0 answers now.2 c.in-Some.span c.in-Some.is p
    (rw c.if-not-branch.false at c.in_ok-is_that.ensures) from (at_most_trans (at_most_from_not_lt c.if-lt.ensures) from)
    (below_at_most below (below_is_at_most (below_from_lt c.if-lt-2.ensures)))

pub returns-then-lt-2-clause-unsaid : goal.returns-then-lt-2-clause-unsaid
returns-then-lt-2-clause-unsaid g c le lt whole answers h says = not_both lt le

pub returns-then-lt-2-clause-fewer : goal.returns-then-lt-2-clause-fewer
returns-then-lt-2-clause-fewer g c = (c.pass_to.ensures.fewer, λ lt below. absurd (not_both below (at_most_itself c.args.end)))

pub returns-clause-upto : goal.returns-clause-upto
returns-clause-upto g c = at_most_from_not_lt c.if-lt-2.ensures

pub returns-clause-said : goal.returns-clause-said
returns-clause-said g c whole answers h p from below =
    let now = said_since g.S.SpanSource.to_come _ _ _ _ c.args.at c.args.end whole answers c.requires c.pass_to.ensures.kept h in
    says_within g.S.SpanSource.to_come _ _ _ c.args.at now.0 answers now.2 c.in-Some.span c.in-Some.is p
    (rw c.if-not-branch.false at c.in_ok-is_that.ensures) from (at_most_trans (at_most_from_not_lt c.if-lt.ensures) from) below

pub returns-clause-kept : goal.returns-clause-kept
returns-clause-kept g c whole answers upto h =
    let on = says_on g.S.SpanSource.to_come _ _ _ c.args.at whole answers h _ (at_most_trans c.requires upto) c.pass_to.ensures.kept in
    says_passed g.S.SpanSource.to_come _ _ _ c.args.at whole answers on _ c.in-Some.span.high
    (below_is_at_most (rw c.in-Some.is at c.pass_to.ensures.ends)) (at_most_trans (at_most_from_not_lt c.if-lt-2.ensures) upto)
    (passed_on g.S.SpanSource.to_come _ c.args.at _ (left_alone g.S.SpanSource.to_come _ _ _ c.args.at whole answers on) _
    c.in-Some.span c.in-Some.span.high c.in-Some.is (at_most_itself c.in-Some.span.high)
    (below_is_at_most (rw c.in-Some.is at c.pass_to.ensures.ends)) c.pass.ensures.gives)

pub returns-clause-unsaid : goal.returns-clause-unsaid
returns-clause-unsaid g c le lt whole answers h says = not_both (rw c.in-Some.is at c.pass_to.ensures.ends) le
