-- The tables that are written from a section's lines.
use Rattle.std.specs.Prelude.{◌≡◌, ◌⊎◌, ℕ, List, Option}
use Rattle.lnt_io.specs.Prefixes.{AppendsPrefix}
use Rattle.lnt_spans.specs.declared.answer.Version.{Version}
use Rattle.lnt_spans.specs.declared.position.Position.{Position}
use Rattle.lnt_spans.specs.declared.span.Span.{Span}
use Rattle.lnt_spans.specs.Spans.{IsCanonical, span_answer, version_answer}
use Rattle.lnt_sequences.specs.Sequences.{Selection}
use Rattle.lnt_records.specs.Written.{IsWrittenTable}
use Rattle.lnt_writing.specs.declared.path_tables.PathTable.TheVariants.{OperationIndex}
use Rattle.lnt_records.specs.declared.path_records.version.PathVersion.{PathVersion}
use Rattle.lnt_records.specs.PathSpans.{PathAnswer}
use Rattle.lnt_writing.specs.Canonical.{HasBecome, IsCanonicalPathTable}
use Rattle.lnt_table.specs.Headline.{told_answer}

-- The bytes are a table of this version, on plain lines, of the canonical spans that answer as the section's spans do, in
-- the fields of the version.
pub record IsTableOfLines (version : Version) (section : List Span) (bytes : List ℕ) : Type 0 where
  pub spans : List Span
  pub canonical : IsCanonical spans
  pub same : (p : Position) → span_answer spans p ≡ version_answer version section p
  pub written : IsWrittenTable version bytes spans

-- The same for the canonical spans that answer as the rows of some units do.
pub record IsTableOfUnits (version : Version) (selection : Selection) (bytes : List ℕ) : Type 0 where
  pub spans : List Span
  pub canonical : IsCanonical spans
  pub same : (p : Position) → span_answer spans p ≡ told_answer version selection p
  pub written : IsWrittenTable version bytes spans

-- ---- tables whose writing stopped
--     old, new    the known bytes that the writer holds before and afterwards

-- What was written is a prefix of a table of these units. There is one such table, by the law `one_written`.
pub record BeginsTableOfUnits (version : Version) (selection : Selection) (old new : Option (List ℕ)) : Type 0 where
  pub whole : List ℕ
  pub is_table : IsTableOfUnits version selection whole
  pub prefix : AppendsPrefix old new whole

-- What was written is a prefix of the table by path with these answers. There is one such table, by the same law.
pub record BeginsTableByPath (version : PathVersion) (answers : Position → Option PathAnswer) (old new : Option (List ℕ)) : Type 0 where
  pub whole : List ℕ
  pub is_table : IsCanonicalPathTable version answers whole
  pub prefix : AppendsPrefix old new whole

-- That; or there can't be a table by path with these answers, and nothing was written.
abbrev pub BeginsPaths : PathVersion → (Position → Option PathAnswer) → Option (List ℕ) → Option (List ℕ) → Type 0
BeginsPaths version answers old new = BeginsTableByPath version answers old new
    ⊎ ((position : Position) × HasBecome version answers old new (OperationIndex position))
