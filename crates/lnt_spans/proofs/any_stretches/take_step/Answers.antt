use Rattle.std.proofs.Common.{Bool, inl, inr, refl, subst, option_map}
use Rattle.lnt_spans.specs.Runs.{IsAheadAt, IsUpTo}
use Rattle.lnt_spans.specs.Stepping.{IsInRun, IsKnown}
use Rattle.lnt_spans.proofs.InRunLemmas.{followed, run_on}
use Rattle.lnt_spans.proofs.PositionLaws.{below_is_at_most}
use Rattle.lnt_spans.proofs.SideLemmas.{side_on, side_run}
use Rattle.lnt_spans.proofs.StretchLemmas.{both_move, given_all, step_answered, step_counted, step_told}
use Rattle.lnt_spans.proofs.any_stretches.take_step.Goals as goal

pub returns-in_default-clause-given : goal.returns-in_default-clause-given
returns-in_default-clause-given g c from f f' told h =
    let own = c.args.stretches.now in
    let run = c.args.run in
    let tell = g.T.Telling.tell c.args.telling.now in
    let within = IsInRun g.N.Runs.is_at g.N.Runs.value_of run from in
    given_all g.S.SpanSource.to_come within g.N.Runs.value_of tell g.T.Telling.said own f f' told c.run_at-section.result.answer
    run.answer c.run_at-section.result.end run.end h
    (side_run (IsAheadAt g.S.SpanSource.to_come) (λ answer. answer) tell own.section own.at f c.run_at-section.result.answer
    c.run_at-section.result.end h.section c.run_at-section.ensures.run)
    (side_run within g.N.Runs.value_of g.T.Telling.said own.table own.at f' run.answer run.end h.table
    (λ values s. run_on g.N.Runs.is_at g.N.Runs.value_of g.T.Telling.said run from own.table f' own.at values s c.requires.past))
    c.in_default.ensures (c.run_at-section.ensures.ended c.in_default.ensures.0) (h.table.valued.ended c.in_default.ensures.1)

pub returns-clause-given : goal.returns-clause-given
returns-clause-given g c from f f' told h =
    let own = c.args.stretches.now in
    let run = c.args.run in
    let tell = g.T.Telling.tell c.args.telling.now in
    let said = g.T.Telling.said in
    let end = c.in-Some.end in
    let section = c.run_at-section.result.answer in
    let within = IsInRun g.N.Runs.is_at g.N.Runs.value_of run from in
    let moves = both_move g.S.SpanSource.to_come within g.N.Runs.value_of tell said own.section own.table own.at end f f' section
    run.answer c.run_at-section.result.end run.end h.section h.table c.run_at-section.ensures.run
    (λ values s. run_on g.N.Runs.is_at g.N.Runs.value_of said run from own.table f' own.at values s c.requires.past)
    c.in-Some.ensures in
    let le = below_is_at_most moves.below in (
      record {
        section =
            side_on (IsAheadAt g.S.SpanSource.to_come) (λ answer. answer) tell own.section c.pass_to.new.self own.at end f h.section le
            (λ values at. c.pass_to.ensures.at own.at values at le (subst (IsUpTo end) c.run_at-section.ensures.end c.in-Some.ensures.0));
        table = side_on within g.N.Runs.value_of said own.table own.table own.at end f' h.table le
            (λ values s. followed g.N.Runs.is_at g.N.Runs.value_of said run from own.table f' own.at end values le c.in-Some.ensures.1 s);
        below = step_told f f' own.at end (option_map tell own.before.section) (option_map said own.before.table) (option_map tell section)
            (option_map said run.answer) told c.in_ok-is_known.is_known h.below moves c.in_ok-is_known.ensures.known;
        counted = step_counted tell said f f' own.at end section run.answer own.missed c.count_missed.new.missed moves h.counted
            c.count_missed.ensures;
        all_counted = step_answered tell f f' own.at end section (option_map said run.answer) own.all c.count_answered.new.answered moves
            h.all_counted c.count_answered.ensures;
      },
      λ unknown. record {
        section = refl;
        table = refl;
        differ = (subst (λ (known : Bool). IsKnown known (option_map tell section) (option_map said run.answer)
            (option_map tell own.before.section) (option_map said own.before.table)) unknown c.in_ok-is_known.ensures.known).0;
        lasts = record { past = moves.below; stay = moves.stay };
      },
    )

pub returns-clause-fewer : goal.returns-clause-fewer
returns-clause-fewer g c =
    let from = c.requires.given.0 in
    let h = c.requires.given.4 in
    let own = c.args.stretches.now in
    let run = c.args.run in
    let end = c.in-Some.end in
    let within = IsInRun g.N.Runs.is_at g.N.Runs.value_of run from in
    let moves = both_move g.S.SpanSource.to_come within g.N.Runs.value_of (g.T.Telling.tell c.args.telling.now) g.T.Telling.said
    own.section own.table own.at end c.requires.given.1 c.requires.given.2 c.run_at-section.result.answer run.answer
    c.run_at-section.result.end run.end h.section h.table c.run_at-section.ensures.run
    (λ values s. run_on g.N.Runs.is_at g.N.Runs.value_of g.T.Telling.said run from own.table c.requires.given.2 own.at values s
    c.requires.past) c.in-Some.ensures in
    let fewer = c.pass_to.ensures.fewer own.at (below_is_at_most moves.below)
    (subst (IsUpTo end) c.run_at-section.ensures.end c.in-Some.ensures.0) in
    (fewer.0, elim c.in-Some.ensures.2 [ inl e ↦ inl (fewer.1 (rw c.run_at-section.ensures.end at e)) | inr e ↦ inr e ])
