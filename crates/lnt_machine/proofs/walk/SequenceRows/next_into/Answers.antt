use Rattle.std.proofs.Common.{◌≡◌, ◌∙◌, ap, sym, subst, Bool, not, Option, Some, None, if◌then◌else◌}
use Rattle.lnt_machine.specs.Matrix.{Row}
use Rattle.lnt_machine.specs.Walking.{GivesRow, SequenceWalk}
use Rattle.lnt_machine.proofs.WalkingLemmas.{ended_by, gives_some}
use Rattle.lnt_machine.proofs.walk.SequenceRows.next_into.Goals as goal
use Rattle.lnt_machine.proofs.walk.SequenceRows.next_into.Goals.{then-not-given, else-not-given}

pub returns-clause-gives : goal.returns-clause-gives
returns-clause-gives c =
    let put : Bool → Option Row = λ given. if given then Some c.next_row-given.new.row else None in
    let made : Option Row = put c.next_row-given.result in
    let ended : c.if-not-given.self ≡ ended_by made =
    elim c.if-not-given.branch [
      | then-not-given w ↦ w.self-is ∙ ap not w.if-not-given.true ∙ sym (ap (λ (given : Bool). ended_by (put given)) w.if-not-given.true)
      | else-not-given w ↦ w.self-is ∙ sym (ap (λ (given : Bool). ended_by (put given)) w.if-not-given.false)
    ] in
    subst (λ (old : SequenceWalk). GivesRow old made
    (record { machine = c.next_row-given.new.machine; walk = c.next_row-given.new.ops; ended = c.if-not-given.self })) c.self.view_is
    (gives_some (record { machine = c.self.inside.machine; walk = c.self.inside.ops; ended = c.self.inside.ended }) _ made
    c.if-self.false c.next_row-given.ensures.gives ended)
