use Rattle.std.proofs.Common.{◌∙◌, arith, ap, inl, inr, subst, sym}
use Rattle.lnt_spans.specs.Runs.{IsUpTo}
use Rattle.lnt_spans.specs.Stepping.{told_with}
use Rattle.lnt_spans.proofs.InRunLemmas.{given_left}
use Rattle.lnt_spans.proofs.RunLaws.{both_fewer}
use Rattle.lnt_spans.proofs.any_stretches.pass_run.Goals as goal

pub returns-then-not-step-clause-given : goal.returns-then-not-step-clause-given
returns-then-not-step-clause-given g c f f' told h =
    let from = c.args.stretches.now.at in
    let new = c.take_step.new.stretches in
    let table = c.in_ok-step.ensures.table ∙ c.loop-step.invariant.table in
    let end = c.run_at-run.ensures.end ∙ ap (λ side. g.N.Runs.end side from) (sym table) in
    let on = rw c.in-Some.is at c.in_ok-step.ensures.given from f f' told (c.loop-step.invariant.told f f' told h) in (
      given_left g.S.SpanSource.to_come g.N.Runs.is_at g.N.Runs.value_of (g.T.Telling.tell c.args.telling.now) g.T.Telling.said
          c.run_at-run.result new f f' (told_with (g.T.Telling.tell c.args.telling.now) g.T.Telling.said told c.in-Some.step) from
          c.pass_to.new.self
          on.0 (λ values began past up. c.pass_to.ensures.at from values began past (subst (IsUpTo new.at) end up)),
      λ unknown.
          let going = on.1 unknown in
          record { section = going.section; table = going.table; differ = going.differ; lasts = going.lasts },
    )

pub returns-then-not-step-clause-fewer : goal.returns-then-not-step-clause-fewer
returns-then-not-step-clause-fewer g c =
    let old = c.args.stretches.now in
    let new = c.take_step.new.stretches in
    let h = c.requires.given in
    let told = (rw c.in-Some.is at c.in_ok-step.ensures.given old.at h.0 h.1 h.2 (c.loop-step.invariant.told h.0 h.1 h.2 h.3)).0 in
    let fewer = rw c.in-Some.is at c.in_ok-step.ensures.fewer in
    let table = c.in_ok-step.ensures.table ∙ c.loop-step.invariant.table in
    let end = c.run_at-run.ensures.end ∙ ap (λ side. g.N.Runs.end side old.at) (sym table) in
    let passed = c.pass_to.ensures.fewer old.at told.table.valued.past (subst (IsUpTo new.at) end told.table.valued.up_to) in
    let runs = ap (λ side. g.N.Runs.runs side old.at) table in
    both_fewer _ _ _ _ (omega (arith, fewer.0, c.loop-step.invariant.fewer), λ lt. omega (arith, lt, c.loop-step.invariant.fewer))
    (rw runs at passed) (elim fewer.1 [ inl lt ↦ inl lt | inr e ↦ inr (sym end ∙ e) ])

pub loop-step-preserved : goal.loop-step-preserved
loop-step-preserved g c =
    let old = c.args.stretches.now in
    let h = c.requires.given in
    let told = (rw c.in-Some.is at c.in_ok-step.ensures.given old.at h.0 h.1 h.2 (c.loop-step.invariant.told h.0 h.1 h.2 h.3)).0 in
    let fewer = rw c.in-Some.is at c.in_ok-step.ensures.fewer in
    record {
      sound = c.in_ok-step.ensures.sound;
      recalled = c.in_ok-step.ensures.recalled;
      past = c.if-is_reached.ensures told.table.valued.up_to;
      table = c.in_ok-step.ensures.table ∙ c.loop-step.invariant.table;
      same = λ _. rw c.in-Some.is at c.in_ok-step.ensures.before;
      told = λ f f' told h. (rw (c.in-Some.is, c.if-not-step.false) at c.in_ok-step.ensures.given old.at f f' told
          (c.loop-step.invariant.told f f' told h)).0;
      fewer = omega (arith, fewer.0, c.loop-step.invariant.fewer);
    }

pub returns-clause-given : goal.returns-clause-given
returns-clause-given g c f f' told h =
    rw c.in_default.is at c.in_ok-step.ensures.given c.args.stretches.now.at f f' told (c.loop-step.invariant.told f f' told h)
