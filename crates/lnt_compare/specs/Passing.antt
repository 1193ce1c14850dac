-- Bytes of a table that were taken from a source, and the lines of spans that were passed.
use Rattle.std.specs.Prelude.{◌≡◌, Bool, true, false, List, [], ℕ, ◌+◌, ◌<◌, ◌++◌, Option, IfSome, length, map}
use Rattle.lnt_spans.specs.declared.span.Span.{Span}
use Rattle.lnt_spans.specs.declared.position.Position.{Position}
use Rattle.lnt_spans.specs.Spans.{end_of}
use Rattle.lnt_io.specs.Pulling.{Pulls}
use Rattle.lnt_records.specs.Table.{Fields, TableFormat}
use Rattle.lnt_records.specs.Written.{LineFormat}
use Rattle.lnt_records.specs.Progress.{AreLinesIn}
use Rattle.lnt_compare.specs.declared.path_tables.telling.PathMemory.{PathMemory}
use Rattle.lnt_records.specs.KeptPaths.{AreTextsOf}
use Rattle.lnt_records.specs.PathLines.{AreFieldsOf}

-- ---- the spans that a source has left. It may be known to have none.

-- These spans are left: those that the source has to come, or none if it is known to have ended.
abbrev pub AreLeft : Bool → (List Span → Type 0) → List Span → Type 0
AreLeft true to_come rest = rest ≡ []
AreLeft false to_come rest = to_come rest

-- ---- the bytes

-- Bytes were taken from a source into a window, and the ones in `passed` were skipped: the window had `before` and has
-- `after`, the source had `old` and has `new`, and it may give `may_still` bytes of the `may_give` before.
pub record Passes (old new : Option (List ℕ)) (may_give may_still : ℕ) (before after passed : List ℕ) : Type 0 where
  pub given : List ℕ
  pub joined : before ++ given ≡ passed ++ after
  pub pulls : Pulls old new given
  pub count : may_still + length given ≡ may_give

-- `all` consists of the bytes before and all from the source.
pub record Ends (old : Option (List ℕ)) (may_give : ℕ) (before all : List ℕ) : Type 0 where
  pub given : List ℕ
  pub joined : all ≡ before ++ given
  pub whole : IfSome old (λ bytes. given ≡ bytes)

-- ---- the lines

-- The line of a record of this span, then `rest`; it has some bytes.
pub record IsLineIn {V X : Type 0} (format : TableFormat V X) (plain : LineFormat V X) (version : V) (span : X)
    (bytes rest : List ℕ) : Type 0 where
  pub fields : Fields
  pub joined : bytes ≡ plain.line fields ++ rest
  pub some : 0 < length (plain.line fields)
  pub says : format.Says version fields span

-- The text is the lines of these spans, as `told` tells them, and `count` is their number with the header. The last one ends at `end`.
pub record AreLinesOf {V X : Type 0} (format : TableFormat V X) (plain : LineFormat V X) (told : Span → X) (version : V) (text : List ℕ)
    (table : List Span) (count : ℕ) (end : Position) : Type 0 where
  pub lines : AreLinesIn format plain version text (map told table) count
  pub end_is : end ≡ end_of table

-- Lines of a table were taken one after another. The next record had the number `before`, and has `after`.
pub record HasTakenLines {C V X : Type 0} (format : TableFormat V X) (plain : LineFormat V X) (version : V)
    (judges : C → List Span → List Fields → Type 0) (old new : C) (text : List ℕ) (before after : ℕ) : Type 0 where
  pub spans : List X
  pub count : ℕ
  pub lines : AreLinesIn format plain version text spans count
  pub number : after + 1 ≡ before + count
  pub judged : (section : List Span) (passed : List Fields) → judges old section passed → judges new section (passed ++ lines.records)

-- ---- what is remembered of the paths of files

-- All that is remembered of paths is correct.
pub record IsRemembered (path : ℕ → ℕ → List ℕ) (memory : PathMemory) : Type 0 where
  pub known : AreTextsOf path memory.known
  pub fields : AreFieldsOf path memory.fields
