pub mod Contents
pub mod Cursors
pub mod FaultTexts
pub mod Good
pub mod Indexed
pub mod Judging
pub mod Laws
pub mod Light
pub mod Nos
pub mod Running
pub mod Stepping
-- what public clauses say of sources and of units
pub use Rattle.lnt_io.specs.CountedSources
pub use Rattle.lnt_io.specs.FaultTexts as SourceTexts
pub use Rattle.lnt_io.specs.Pulling
pub use Rattle.lnt_io.specs.Stopping
pub use Rattle.lnt_unit.specs.UnitBytes
pub use Rattle.lnt_header.specs.declared.unit_parts.UnitParts as DeclaredParts
-- of their tables and of their rows
pub use Rattle.lnt_files.specs.Tables
pub use Rattle.lnt_machine.specs.Matrix
pub use Rattle.lnt_sequences.specs.Copies
pub use Rattle.lnt_sequences.specs.FaultTexts as SequenceTexts
pub use Rattle.lnt_sequences.specs.RowSpans
pub use Rattle.lnt_sequences.specs.Sequences
-- and of positions, answers and spans
pub use Rattle.lnt_spans.specs.Answers
pub use Rattle.lnt_spans.specs.AnyStretches
pub use Rattle.lnt_spans.specs.Differences
pub use Rattle.lnt_spans.specs.Spans
pub use Rattle.lnt_spans.specs.Positions
pub use Rattle.lnt_spans.specs.Remaining
