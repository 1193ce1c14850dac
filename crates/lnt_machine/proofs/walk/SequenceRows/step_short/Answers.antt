use Rattle.std.proofs.Common.{Some, refl, subst, sym}
use Rattle.lnt_ops.specs.Walks.{Walk}
use Rattle.lnt_machine.specs.Walking.{GivesRow, SequenceWalk, WillGive}
use Rattle.lnt_machine.proofs.WalkingLemmas.{gives_some, next_quiet, next_row, none_put, row_put, short_out, short_quiet}
use Rattle.lnt_machine.proofs.walk.SequenceRows.step_short.Goals as goal

pub returns-in_default-clause-comes : goal.returns-in_default-clause-comes
returns-in_default-clause-comes c rows will =
    subst
    (λ (ops : Walk). WillGive rows (record { machine = c.self.inside.machine; walk = ops; ended = c.self.inside.ended }))
    (sym c.in_default.ensures.unchanged) (subst (WillGive rows) (sym c.self.view_is) will)

pub returns-in_default-step_uncounted-clause-comes : goal.returns-in_default-step_uncounted-clause-comes
returns-in_default-step_uncounted-clause-comes c rows will =
    absurd (short_out (record { machine = c.self.inside.machine; walk = c.self.inside.ops; ended = c.self.inside.ended }) c.in-Some.op
    c.next_short.new.self c.if-self.false c.in-Some.ensures.steps c.in_default-step_uncounted.ensures.out_of_range rows
    (subst (WillGive rows) (sym c.self.view_is) will))

pub returns-then-not-appends-clause-comes : goal.returns-then-not-appends-clause-comes
returns-then-not-appends-clause-comes c rows will =
    short_quiet (record { machine = c.self.inside.machine; walk = c.self.inside.ops; ended = c.self.inside.ended })
    (record { machine = c.step_uncounted.new.self; walk = c.next_short.new.self; ended = c.self.inside.ended })
    c.if-self.false c.if-self.false
    (λ h all has. next_quiet has c.in-Some.ensures.steps c.in-Ok.ensures.ok (none_put _ _ c.if-not-appends.true)) rows
    (subst (WillGive rows) (sym c.self.view_is) will)

pub returns-clause-comes : goal.returns-clause-comes
returns-clause-comes c =
    let row = c.step_uncounted.new.row in
    let new : SequenceWalk = record {
      machine = c.step_uncounted.new.self;
      walk = c.next_short.new.self;
      ended = row.end_sequence;
    } in
    subst (λ (old : SequenceWalk). GivesRow old (Some row) new) c.self.view_is
    (gives_some (record { machine = c.self.inside.machine; walk = c.self.inside.ops; ended = c.self.inside.ended }) new
    (Some row) c.if-self.false
    (λ h all has. next_row has c.in-Some.ensures.steps c.in-Ok.ensures.ok (row_put _ _ c.if-not-appends.false)) refl)
