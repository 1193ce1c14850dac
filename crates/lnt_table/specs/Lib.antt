pub mod AnyCopy
pub mod AnyDiffering
pub mod AnyVersion
pub mod Asked
pub mod AskedTables
pub mod FaultTexts
pub mod Groups
pub mod Headline
pub mod Judged
pub mod Laws
pub mod Said
pub mod Verdicts
pub mod Written
pub mod WrongStretches
-- what public clauses say of sources
pub use Rattle.lnt_io.specs.FaultTexts as SourceTexts
pub use Rattle.lnt_io.specs.Pulling
pub use Rattle.lnt_io.specs.Stopping
-- of sections
pub use Rattle.lnt_lines.specs.Good
pub use Rattle.lnt_lines.specs.Indexed
pub use Rattle.lnt_lines.specs.Nos
pub use Rattle.lnt_sequences.specs.Sequences
-- and of tables: their records, their spans, and what differs
pub use Rattle.lnt_writing.specs.Canonical
pub use Rattle.lnt_compare.specs.Comparisons
pub use Rattle.lnt_compare.specs.Differing
pub use Rattle.lnt_compare.specs.Held
pub use Rattle.lnt_compare.specs.Outcomes
pub use Rattle.lnt_compare.specs.Passing
pub use Rattle.lnt_compare.specs.PathStretches
pub use Rattle.lnt_records.specs.FaultTexts as TableTexts
pub use Rattle.lnt_records.specs.Faults
pub use Rattle.lnt_records.specs.PathSpans
pub use Rattle.lnt_records.specs.PathTables
pub use Rattle.lnt_records.specs.PathLines
pub use Rattle.lnt_records.specs.Table
pub use Rattle.lnt_records.specs.Written as TableLines
pub use Rattle.lnt_spans.specs.AnyStretches
pub use Rattle.lnt_spans.specs.Differences
pub use Rattle.lnt_spans.specs.Laws as SpanLaws
pub use Rattle.lnt_spans.specs.Merged
pub use Rattle.lnt_spans.specs.Partial
pub use Rattle.lnt_spans.specs.Remaining
pub use Rattle.lnt_spans.specs.Spans
pub use Rattle.lnt_spans.specs.Stretching
