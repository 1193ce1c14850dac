use Rattle.std.proofs.Common.{◌∙◌, List, arith, subst, sym}
use Rattle.lnt_sequences.specs.Copies.{AreExtentsOf}
use Rattle.lnt_sequences.specs.Sequences.{live_sequences}
use Rattle.lnt_lines.specs.Cursors.{AreToCome, Cursor}
use Rattle.lnt_table.specs.declared.said.SequenceSpans.{SequenceSpans}
use Rattle.lnt_table.specs.Asked.{AreSequencesFrom}
use Rattle.lnt_table.specs.Groups.{HaveEnded}
use Rattle.lnt_table.specs.Said.{SaysFrom}
use Rattle.lnt_table.proofs.CopiesLemmas.{refilled, still_ready, turn_of_any}
use Rattle.lnt_table.proofs.copies.Copies.turn_in_group.Goals as goal

pub returns-clause-turn : goal.returns-clause-turn
returns-clause-turn g c selection is live whole upto ready =
    let tell = g.A.TableAnswer.tell c.args.answer.now in
    let told = g.A.TableAnswer.said c.args.answer.now in
    let copies = c.args.self.now in
    let group = c.requires.copies.group in
    let turns = rw c.deref_mut.ensures.value at c.in_ok-to.ensures.turns in
    let kept = rw c.deref_mut.ensures.value at c.in_ok-to.ensures.kept in
    let ended : HaveEnded copies.group.extents.now copies.held c.args.at =
    λ k d lt. rw c.requires.at at group.ended k d (omega (arith, lt, c.requires.held.first)) in (
      turn_of_any tell told selection c.extents_of_sequences.ensures copies.group.extents.now copies.held copies.group.begun c.args.at whole
          copies.sequences.items
          (subst (AreExtentsOf (live_sequences selection.dead selection.units)) (sym c.requires.copies.extents) live) group.within ended
          c.requires.held.begun ready c.args.is_said c.args.end c.in_ok-to.to c.requires.end c.in_ok-to.ensures.past
          c.in_ok-to.ensures.upto turns,
      subst (λ (list : List (SequenceSpans Cursor)).
          AreSequencesFrom (λ sequence. SaysFrom AreToCome tell told sequence c.in_ok-to.to whole)
          selection copies.group.extents.now copies.held list)
          (sym (refilled copies.sequences.len copies.sequences.items c.first_turn.new.sequences
          (c.first_turn.auto.sequences ∙ c.deref_mut.ensures.len)))
          (still_ready tell told selection copies.group.extents.now copies.held copies.sequences.items c.first_turn.new.sequences c.args.at
          c.in_ok-to.to c.args.end whole kept upto ready),
    )
