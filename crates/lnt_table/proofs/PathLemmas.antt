-- Tables by path. One that was written for some answers was also written for the same answers given by another function.
use Rattle.std.proofs.Common.{◌≡◌, ◌∙◌, inl, inr, ℕ, List, Option}
use Rattle.std.specs.Io.KnownBytes.{Keeps}
use Rattle.std.specs.List.{AllByRecursion}
use Rattle.lnt_writing.specs.declared.path_tables.PathTable.{PathTable}
use Rattle.lnt_writing.specs.declared.path_tables.PathTable.TheVariants.{OperationIndex, Written}
use Rattle.lnt_records.specs.declared.path_records.version.PathVersion.{PathVersion}
use Rattle.lnt_compare.specs.PathStretches.{IsPathSpanOfInstructions, IsLeastOperation}
use Rattle.lnt_records.specs.PathSpans.{PathAnswer, spans_by_path, AreCanonicalOf, PathSpan}
use Rattle.lnt_writing.specs.Canonical.{BeginsPathTable, HasBecome, IsCanonicalPathTable}
use Rattle.lnt_writing.proofs.PathWrittenLaws.{no_operation_or_least, whole_or_none}
use Rattle.lnt_spans.specs.declared.position.Position.{Position}
use Rattle.lnt_spans.specs.declared.span.Span.{Span}
use Rattle.lnt_spans.specs.Spans.{FitSpans, AreInOrder}
use Rattle.lnt_table.specs.Written.{BeginsPaths, BeginsTableByPath}

canonical_of_same : (f g : Position → Option PathAnswer) (spans : List PathSpan) → ((p : Position) → f p ≡ g p) → AreCanonicalOf f spans
    → AreCanonicalOf g spans
canonical_of_same f g spans e h = record { canonical = h.canonical; same = λ p. h.same p ∙ e p }

whole_of_same : (version : PathVersion) (f g : Position → Option PathAnswer) (bytes : List ℕ) → ((p : Position) → f p ≡ g p)
    → IsCanonicalPathTable version f bytes → IsCanonicalPathTable version g bytes
whole_of_same version f g bytes e h =
    record { spans = h.spans; canonical = canonical_of_same f g h.spans e h.canonical; table = h.table; plain = h.plain }

pub becomes_of_same : (version : PathVersion) (f g : Position → Option PathAnswer) (old new : Option (List ℕ)) (table : PathTable)
    → ((p : Position) → f p ≡ g p)
    → HasBecome version f old new table → HasBecome version g old new table
becomes_of_same version f g old new Written e h = (h.0, h.1, whole_of_same version f g h.0 e h.2)
becomes_of_same version f g old new (OperationIndex position) e h =
    (h.0, record { spans = h.1.spans; canonical = canonical_of_same f g h.1.spans e h.1.canonical; least = h.1.least })

-- ---- tables whose writing was stopped

-- a whole table, of which a prefix was appended
table_begun : (version : PathVersion) (path : ℕ → ℕ → List ℕ) (given : List Span) (answers : Position → Option PathAnswer)
    (old new : Option (List ℕ)) → AreInOrder given → FitSpans given → ((p : Position) → spans_by_path version path given p ≡ answers p)
    → (begun : BeginsPathTable version (spans_by_path version path given) old new) → AllByRecursion IsPathSpanOfInstructions begun.spans
    → BeginsTableByPath version answers old new
table_begun version path given answers old new order fits e begun none =
    let table = whole_or_none version path given begun.spans order fits begun.canonical none in
    record {
      whole = table.0;
      is_table = whole_of_same version (spans_by_path version path given) answers table.0 e table.1;
      prefix = begun.of_whole table.0 table.1;
    }

-- the least position that no table by path can tell
none_begun : (version : PathVersion) (f answers : Position → Option PathAnswer) (old new : Option (List ℕ)) (spans : List PathSpan)
    (position : Position) → ((p : Position) → f p ≡ answers p) → AreCanonicalOf f spans → IsLeastOperation spans position → Keeps old new
    → HasBecome version answers old new (OperationIndex position)
none_begun version f answers old new spans position e canonical least kept =
    (kept, record { spans = spans; canonical = canonical_of_same f answers spans e canonical; least = least })

-- What was appended is a prefix of the table of these spans; or there is none, and nothing was appended.
pub paths_begun : (version : PathVersion) (path : ℕ → ℕ → List ℕ) (given : List Span) (answers : Position → Option PathAnswer)
    (old new : Option (List ℕ)) → AreInOrder given → FitSpans given → ((p : Position) → spans_by_path version path given p ≡ answers p)
    → BeginsPathTable version (spans_by_path version path given) old new → BeginsPaths version answers old new
paths_begun version path given answers old new order fits e begun = elim begun.decided [
  | inr none ↦ inl (table_begun version path given answers old new order fits e begun none)
  | inl kept ↦ elim (no_operation_or_least begun.spans) [
    | inl none ↦ inl (table_begun version path given answers old new order fits e begun none)
    | inr least ↦ inr (
      least.0,
      none_begun version (spans_by_path version path given) answers old new begun.spans least.0 e begun.canonical least.1 kept,
    )
  ]
]
