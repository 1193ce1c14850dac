use Rattle.std.proofs.Common.{◌≡◌}
use Rattle.lnt_unit.specs.declared.reader.Progress.TheVariants.{Reading}
use Rattle.lnt_notes.proofs.ends.held_by_several.Given as goal
use Rattle.lnt_unit.specs.Readers.{progress_of, source_of}

abbrev pub invariant-loop-buffer : goal.invariant-loop-buffer
invariant-loop-buffer g l = progress_of l.reader ≡ Reading

abbrev pub decreases-loop-buffer : goal.decreases-loop-buffer
decreases-loop-buffer g l = g.R.Source.left (source_of l.reader)
