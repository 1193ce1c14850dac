use Rattle.std.proofs.Common.{◌∙◌, inr, inl, subst, sym, true, option_map}
use Rattle.lnt_spans.specs.Runs.{IsAheadAt, IsUpTo}
use Rattle.lnt_spans.proofs.PositionLaws.{at_most_itself, at_most_trans, below_is_at_most}
use Rattle.lnt_spans.proofs.RunLaws.{both_fewer}
use Rattle.lnt_spans.proofs.SideLemmas.{side_on, side_run}
use Rattle.lnt_spans.proofs.StretchLemmas.{both_move, ended_last, kept_last, nothing_from, other_last, step_answered, step_counted}
use Rattle.lnt_spans.proofs.StretchLemmas.{step_told}
use Rattle.lnt_spans.proofs.any_stretches.goes_on.Goals as goal

pub returns-in_default-clause-on : goal.returns-in_default-clause-on
returns-in_default-clause-on g c f f' told last h going =
    let own = c.args.stretches.now in
    let tell = g.T.Telling.tell c.args.telling.now in
    let said = g.T.Telling.said in
    let section = c.run_at-section.result in
    let table = c.run_at-table.result in
    ended_last tell said own f f' last going
    (nothing_from tell f own.at section.answer section.end
    (side_run (IsAheadAt g.S.SpanSource.to_come) (λ answer. answer) tell own.section own.at f section.answer section.end h.section
    c.run_at-section.ensures.run)
    c.in_default.ensures.0 (c.run_at-section.ensures.ended c.in_default.ensures.0) own.at (at_most_itself own.at))
    (nothing_from said f' own.at table.answer table.end
    (side_run g.N.Runs.is_at g.N.Runs.value_of said own.table own.at f' table.answer table.end h.table c.run_at-table.ensures.run)
    c.in_default.ensures.1 (c.run_at-table.ensures.ended c.in_default.ensures.1) own.at (at_most_itself own.at))

pub returns-then-not-branch-clause-on : goal.returns-then-not-branch-clause-on
returns-then-not-branch-clause-on g c f f' told last h going =
    let own = c.args.stretches.now in
    let section = c.run_at-section.result in
    let table = c.run_at-table.result in
    let moves = both_move g.S.SpanSource.to_come g.N.Runs.is_at g.N.Runs.value_of (g.T.Telling.tell c.args.telling.now) g.T.Telling.said
    own.section own.table own.at c.in-Some.end f f' section.answer table.answer section.end table.end h.section h.table
    c.run_at-section.ensures.run c.run_at-table.ensures.run c.in-Some.ensures in
    other_last (g.T.Telling.tell c.args.telling.now) g.T.Telling.said own f f' last c.in-Some.end _ _ going moves
    (rw c.if-not-branch.true at c.in_ok-are_as_before.ensures.same)

pub returns-clause-on : goal.returns-clause-on
returns-clause-on g c f f' told last h going =
    let own = c.args.stretches.now in
    let section = c.run_at-section.result in
    let table = c.run_at-table.result in
    let moves = both_move g.S.SpanSource.to_come g.N.Runs.is_at g.N.Runs.value_of (g.T.Telling.tell c.args.telling.now) g.T.Telling.said
    own.section own.table own.at c.in-Some.end f f' section.answer table.answer section.end table.end h.section h.table
    c.run_at-section.ensures.run c.run_at-table.ensures.run c.in-Some.ensures in
    let same = rw c.if-not-branch.false at c.in_ok-are_as_before.ensures.same in
    let kept = kept_last (g.T.Telling.tell c.args.telling.now) g.T.Telling.said own f f' last c.in-Some.end _ _ going moves same.0 same.1 in
    record {
      section = same.0 ∙ going.section;
      table = same.1 ∙ going.table;
      differ = going.differ;
      lasts = kept;
    }

pub returns-clause-given : goal.returns-clause-given
returns-clause-given g c f f' told h =
    let own = c.args.stretches.now in
    let tell = g.T.Telling.tell c.args.telling.now in
    let said = g.T.Telling.said in
    let end = c.in-Some.end in
    let section = c.run_at-section.result in
    let table = c.run_at-table.result in
    let moves = both_move g.S.SpanSource.to_come g.N.Runs.is_at g.N.Runs.value_of tell said own.section own.table own.at end f f'
    section.answer table.answer section.end table.end h.section h.table c.run_at-section.ensures.run c.run_at-table.ensures.run
    c.in-Some.ensures in
    let le = below_is_at_most moves.below in
    let same = rw c.if-not-branch.false at c.in_ok-are_as_before.ensures.same in
    record {
      section =
          side_on (IsAheadAt g.S.SpanSource.to_come) (λ answer. answer) tell own.section c.pass_to-2.new.self own.at end f h.section le
          (λ values at. c.pass_to-2.ensures.at own.at values at le (subst (IsUpTo end) c.run_at-section.ensures.end c.in-Some.ensures.0));
      table = side_on g.N.Runs.is_at g.N.Runs.value_of said own.table c.pass_to.new.self own.at end f' h.table le
          (λ values at. c.pass_to.ensures.at own.at values at le (subst (IsUpTo end) c.run_at-table.ensures.end c.in-Some.ensures.1));
      below = step_told f f' own.at end (option_map tell own.before.section) (option_map said own.before.table)
          (option_map tell section.answer) (option_map said table.answer) told true h.below moves (inr same);
      counted = step_counted tell said f f' own.at end section.answer table.answer own.missed c.count_missed.new.missed moves h.counted
          c.count_missed.ensures;
      all_counted = step_answered tell f f' own.at end section.answer (option_map said table.answer) own.all
          c.count_answered.new.answered moves h.all_counted c.count_answered.ensures;
    }

pub returns-clause-fewer : goal.returns-clause-fewer
returns-clause-fewer g c =
    let own = c.args.stretches.now in
    let h = c.requires.given in
    let end = c.in-Some.end in
    let section = c.run_at-section.result in
    let table = c.run_at-table.result in
    let moves = both_move g.S.SpanSource.to_come g.N.Runs.is_at g.N.Runs.value_of (g.T.Telling.tell c.args.telling.now) g.T.Telling.said
    own.section own.table own.at end h.0 h.1 section.answer table.answer section.end table.end h.3.section h.3.table
    c.run_at-section.ensures.run c.run_at-table.ensures.run c.in-Some.ensures in
    let le = below_is_at_most moves.below in
    both_fewer _ _ _ _
    (c.pass_to-2.ensures.fewer own.at le (subst (IsUpTo end) c.run_at-section.ensures.end c.in-Some.ensures.0))
    (c.pass_to.ensures.fewer own.at le (subst (IsUpTo end) c.run_at-table.ensures.end c.in-Some.ensures.1))
    (elim c.in-Some.ensures.2
    [ inl e ↦ inl (sym c.run_at-section.ensures.end ∙ e) | inr e ↦ inr (sym c.run_at-table.ensures.end ∙ e) ])

pub are_as_before-requires-clause-same : goal.are_as_before-requires-clause-same
are_as_before-requires-clause-same g c known =
    let own = c.args.stretches.now in
    let h = c.requires.given in
    let table = c.run_at-table.result in
    let run = side_run g.N.Runs.is_at g.N.Runs.value_of g.T.Telling.said own.table own.at h.1 table.answer table.end h.3.table
    c.run_at-table.ensures.run in
    let here = at_most_itself own.at in
    sym (run.says own.at here run.past) ∙ h.4 own.at here (c.is_below-is_same.ensures known)

pub returns-clause-until : goal.returns-clause-until
returns-clause-until g c f f' told h stays p past below =
    let own = c.args.stretches.now in
    let section = c.run_at-section.result in
    let table = c.run_at-table.result in
    let said = g.T.Telling.said in
    let moves = both_move g.S.SpanSource.to_come g.N.Runs.is_at g.N.Runs.value_of (g.T.Telling.tell c.args.telling.now) said own.section
    own.table own.at c.in-Some.end f f' section.answer table.answer section.end table.end h.section h.table c.run_at-section.ensures.run
    c.run_at-table.ensures.run c.in-Some.ensures in
    let run = side_run g.N.Runs.is_at g.N.Runs.value_of said own.table own.at f' table.answer table.end h.table
    c.run_at-table.ensures.run in
    run.says p (at_most_trans (below_is_at_most moves.below) past) (c.end_or.ensures p below)
