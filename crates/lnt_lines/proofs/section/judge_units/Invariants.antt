use Rattle.std.proofs.Common.{◌≡◌, ◌+◌}
use Rattle.lnt_unit.specs.declared.reader.Progress.TheVariants.{Reading}
use Rattle.lnt_unit.specs.Readers.{loan_of, offset_of, order_of, progress_of, source_of}
use Rattle.lnt_lines.proofs.SectionLemmas.{JudgedSoFar}
use Rattle.lnt_lines.proofs.section.judge_units.Given as goal

abbrev pub invariant-loop-buffer : goal.invariant-loop-buffer
invariant-loop-buffer g l = record {
  judged : JudgedSoFar l.strings.line.now l.strings.general.now l.options (g.R.Source.remaining (source_of l.fn.reader))
      (g.R.Source.remaining (source_of l.reader)) (offset_of l.reader) l.draft;
  order_is : order_of l.reader ≡ l.options.order;
  reading : progress_of l.reader ≡ Reading;
  failures : g.R.Source.failures (source_of l.reader) ≡ g.R.Source.failures (source_of l.fn.reader);
  name : g.R.Source.name (source_of l.reader) ≡ g.R.Source.name (source_of l.fn.reader);
  left : g.R.Source.left (source_of l.reader) + (offset_of l.reader) ≡ g.R.Source.left (source_of l.fn.reader);
  same_reference : loan_of l.reader ≡ loan_of l.fn.reader;
}

abbrev pub decreases-loop-buffer : goal.decreases-loop-buffer
decreases-loop-buffer g l = g.R.Source.left (source_of l.reader)
