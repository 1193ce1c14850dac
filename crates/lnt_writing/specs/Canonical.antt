-- The table of a section's canonical spans, as it is written, by number and by path.
use Rattle.std.specs.Prelude.{◌≡◌, ℕ, List, Option, ◌⊎◌}
use Rattle.std.specs.Io.KnownBytes.{Appends, Keeps}
use Rattle.std.specs.List.{AllByRecursion}
use Rattle.lnt_io.specs.Prefixes.{AppendsPrefix}
use Rattle.lnt_spans.specs.declared.answer.Version.{Version}
use Rattle.lnt_spans.specs.declared.answer.Version.TheVariants.{Two}
use Rattle.lnt_spans.specs.declared.position.Position.{Position}
use Rattle.lnt_spans.specs.declared.span.Span.{Span}
use Rattle.lnt_spans.specs.Spans.{IsCanonical, span_answer, version_answer}
use Rattle.lnt_records.specs.Written.{BeginsTable, BeginsTableIn, IsOfVersion, IsWrittenTable}
use Rattle.lnt_writing.specs.declared.path_tables.PathTable.{PathTable}
use Rattle.lnt_writing.specs.declared.path_tables.PathTable.TheVariants.{OperationIndex, Written}
use Rattle.lnt_records.specs.declared.path_records.version.PathVersion.{PathVersion}
use Rattle.lnt_compare.specs.PathStretches.{IsLeastOperation, IsPathSpanOfInstructions}
use Rattle.lnt_records.specs.PathSpans.{PathAnswer, AreCanonicalOf, PathSpan}
use Rattle.lnt_records.specs.PathTables.{IsPathTableOf}
use Rattle.lnt_records.specs.PathLines.{IsPlainPathTable, plain_by_path}

-- ---- tables by number

-- The answer has an instruction set and a discriminator.
abbrev pub HasAllFields : Span → Type 0
HasAllFields span = IsOfVersion Two span.answer

-- The bytes are a table, on plain lines, of the canonical spans that answer as the given ones do, in the fields of the
-- version.
pub record IsCanonicalTable (version : Version) (given : List Span) (bytes : List ℕ) : Type 0 where
  pub spans : List Span
  pub canonical : IsCanonical spans
  pub same : (p : Position) → span_answer spans p ≡ version_answer version given p
  pub written : IsWrittenTable version bytes spans

-- What was written is a prefix of the header and the lines of the first canonical spans that answer as the given ones do, in the fields
-- of the version. Every table of them on plain lines begins with it.
pub record BeginsCanonicalTable (version : Version) (given : List Span) (old new : Option (List ℕ)) : Type 0 where
  pub spans : List Span
  pub canonical : IsCanonical spans
  pub same : (p : Position) → span_answer spans p ≡ version_answer version given p
  pub begun : BeginsTable version spans old new
  pub of_whole : (bytes : List ℕ) → IsCanonicalTable version given bytes → AppendsPrefix old new bytes

-- ---- tables by path

-- The bytes are a table of this version, on plain lines, of the canonical spans with these answers.
pub record IsCanonicalPathTable (version : PathVersion) (answers : Position → Option PathAnswer) (bytes : List ℕ) : Type 0 where
  pub spans : List PathSpan
  pub canonical : AreCanonicalOf answers spans
  pub table : IsPathTableOf version bytes spans
  pub plain : IsPlainPathTable version bytes spans

-- No table can contain the canonical spans with these answers: this is the least position at which one begins or ends with
-- an operation index other than 0.
pub record HasOperationIndex (answers : Position → Option PathAnswer) (position : Position) : Type 0 where
  pub spans : List PathSpan
  pub canonical : AreCanonicalOf answers spans
  pub least : IsLeastOperation spans position

-- What was written is a prefix of the header and the lines of the first canonical spans with these answers. Every whole table of them
-- begins with it. It is empty, or all of these spans begin and end at operation index 0, so that there is a whole table of them if
-- their numbers have at most 64 bits.
pub record BeginsPathTable (version : PathVersion) (answers : Position → Option PathAnswer) (old new : Option (List ℕ)) : Type 0 where
  pub spans : List PathSpan
  pub canonical : AreCanonicalOf answers spans
  pub begun : BeginsTableIn plain_by_path version spans old new
  pub of_whole : (bytes : List ℕ) → IsCanonicalPathTable version answers bytes → AppendsPrefix old new bytes
  pub decided : Keeps old new ⊎ AllByRecursion IsPathSpanOfInstructions spans

-- The result of writing the table of these answers, and what was written: exactly the bytes of the table, or nothing if
-- there can't be one.
abbrev pub HasBecome : PathVersion → (Position → Option PathAnswer) → Option (List ℕ) → Option (List ℕ) → PathTable → Type 0
HasBecome version answers old new Written = (bytes : List ℕ) × Appends old new bytes × IsCanonicalPathTable version answers bytes
HasBecome version answers old new (OperationIndex position) = Keeps old new × HasOperationIndex answers position
