use Rattle.std.proofs.Common.{◌≡◌, ◌+◌}
use Rattle.lnt_unit.specs.declared.reader.Progress.TheVariants.{Reading}
use Rattle.lnt_unit.specs.Readers.{loan_of, offset_of, order_of, progress_of, source_of}
use Rattle.lnt_dump.proofs.Frames.{FramesPrinted}
use Rattle.lnt_dump.proofs.units.print_lines.Given as goal

abbrev pub invariant-loop-unit : goal.invariant-loop-unit
invariant-loop-unit g l = record {
  reading : progress_of l.reader ≡ Reading;
  failures : g.R.Source.failures (source_of l.reader) ≡ g.R.Source.failures (source_of l.fn.reader);
  name : g.R.Source.name (source_of l.reader) ≡ g.R.Source.name (source_of l.fn.reader);
  left : g.R.Source.left (source_of l.reader) + offset_of l.reader ≡ g.R.Source.left (source_of l.fn.reader);
  same_reference : loan_of l.reader ≡ loan_of l.fn.reader;
  printed : FramesPrinted l.fn.order (g.R.Source.remaining (source_of l.fn.reader)) (g.R.Source.remaining (source_of l.reader))
      (g.W.Write.contents l.fn.out) (g.W.Write.contents l.out) (order_of l.reader) (offset_of l.reader);
}

abbrev pub decreases-loop-unit : goal.decreases-loop-unit
decreases-loop-unit g l = g.R.Source.left (source_of l.reader)
