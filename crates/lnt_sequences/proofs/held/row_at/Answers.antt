use Rattle.lnt_sequences.proofs.CheckpointLemmas.{checkpoint_before}
use Rattle.lnt_sequences.proofs.held.row_at.Goals as goal

pub loop-position-init : goal.loop-position-init
loop-position-init c = record {
  in_rows = λ list will. checkpoint_before list c.before-checkpoint.result c.before-checkpoint.ensures.last
      (rw c.before-checkpoint.ensures.after will);
  not_above = rw c.before-checkpoint.ensures.last tt;
}

pub loop-position-preserved : goal.loop-position-preserved
loop-position-preserved c = record {
  in_rows = λ list will. c.loop-position-test.ensures.goes_on list (c.loop-position.invariant.in_rows list will);
  not_above = c.go_on.ensures.not_above;
}

pub returns : goal.returns
returns c list will ordered = c.loop-position-test.ensures.goes_on list (c.loop-position.invariant.in_rows list will) ordered
