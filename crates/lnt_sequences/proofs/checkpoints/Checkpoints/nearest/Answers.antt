use Rattle.lnt_sequences.proofs.CheckpointLemmas.{checkpoint_before}
use Rattle.lnt_sequences.proofs.checkpoints.Checkpoints.nearest.Goals as goal

pub returns-clause-in_rows : goal.returns-clause-in_rows
returns-clause-in_rows c list will checkpoints = checkpoint_before list c.before-2.result c.before-2.ensures.last
    (rw c.before-2.ensures.after will)
