use Rattle.std.proofs.Common.{subst, sym, All}
use Rattle.lnt_sequences.specs.Briefs.{IsCheckpointIn}
use Rattle.lnt_sequences.proofs.CheckpointLemmas.{checkpoints_more}
use Rattle.lnt_sequences.proofs.checkpoints.Checkpoints.row_at.Goals as goal

pub loop-position-preserved : goal.loop-position-preserved
loop-position-preserved c = record {
  checkpoints = λ list will checkpoints. checkpoints_more list c.loop-position.self.checkpoints.items c.push.new.self.items
      c.go_on.new.self c.fork.result
      (c.loop-position.invariant.checkpoints list will checkpoints)
      (c.loop-position-test.ensures.goes_on list (c.loop-position.invariant.checkpoint list will checkpoints)) c.fork.ensures
      c.in_ok-push.ensures.items;
  checkpoint = λ list will checkpoints. c.loop-position-test.ensures.goes_on list
      (c.loop-position.invariant.checkpoint list will checkpoints);
  not_above = c.go_on.ensures.not_above;
}

pub returns-in_err-push-clause-checkpoints : goal.returns-in_err-push-clause-checkpoints
returns-in_err-push-clause-checkpoints c list will checkpoints =
    subst (All (IsCheckpointIn list)) (sym c.in_err-push.ensures.items) (c.loop-position.invariant.checkpoints list will checkpoints)

pub returns-clause-found : goal.returns-clause-found
returns-clause-found c list will checkpoints ordered =
    c.loop-position-test.ensures.goes_on list (c.loop-position.invariant.checkpoint list will checkpoints) ordered
