-- How far a table was read and compared, by number or by path. `tell` gives what a table contains of an answer. No public contract speaks
-- of it.
use Rattle.lnt_spans.specs.SpanKinds.{answer_held, last_end}
use Rattle.std.specs.Prelude.{◌≡◌, ℕ, ◌+◌, List, [], ◌∷◌, ◌++◌, None, Option, Vec, Result, length, option_map}
use Rattle.std.specs.Global.{Global}
use Rattle.lnt_spans.specs.declared.answer.Answer.{Answer}
use Rattle.lnt_spans.specs.declared.answer.Version.{Version}
use Rattle.lnt_spans.specs.declared.scope.Coverage.{Coverage}
use Rattle.lnt_spans.specs.declared.scope.Scope.{Scope}
use Rattle.lnt_spans.specs.declared.position.Position.{Position}
use Rattle.lnt_spans.specs.declared.span.Span.{Span}
use Rattle.lnt_spans.specs.Remaining.{IsAhead}
use Rattle.lnt_spans.specs.Answers.{in_version}
use Rattle.lnt_spans.specs.AnyStretches.{Stretch}
use Rattle.lnt_spans.specs.Spans.{end_of, AreInOrder, version_answer}
use Rattle.lnt_spans.specs.Merged.{HasMerged, HasOneMore, IsJudged, answer_told, end_of_records}
use Rattle.lnt_spans.specs.Partial.{addresses_of}
use Rattle.lnt_spans.specs.Positions.{IsAtMost, IsBelow}
pub use Rattle.lnt_compare.specs.declared.comparison.Comparison.{Comparison}
use Rattle.lnt_compare.specs.declared.gathering.Gathering.{Gathering}
use Rattle.lnt_compare.specs.declared.outcome.TableRead.{TableRead}
use Rattle.lnt_compare.specs.declared.outcome.TableRead.TheVariants as read
use Rattle.lnt_compare.specs.Comparisons.{TableKind}
use Rattle.lnt_compare.specs.Joining.{LeaveOff}
use Rattle.lnt_compare.specs.Outcomes.{Outcome}
use Rattle.lnt_compare.specs.Passing.{AreLinesOf, Ends, HasTakenLines, Passes}
use Rattle.lnt_records.specs.declared.fault.TableFault.{TableFault}
use Rattle.lnt_records.specs.Faults.{IsFault}
use Rattle.lnt_records.specs.Progress.{IsCutAfter}
use Rattle.lnt_records.specs.Reading.{IsNarrow}
use Rattle.lnt_records.specs.Table.{BeginsWith, Fields, IsTable, IsTableIn, IsTableOf, RecordsOf, TableFormat}
use Rattle.lnt_records.specs.Written.{LineFormat, lines_of}

-- The spans of the two lists answer alike at every position, as a table contains it.
abbrev pub AnswerAlike : {Y : Type 0} → (Answer → Y) → List Span → List Span → Type 0
AnswerAlike tell list section = (p : Position) → answer_told tell list p ≡ answer_told tell section p

-- ---- records that are compared

-- A record isn't empty, and doesn't begin below `at`.
pub record Comes (at low high : Position) : Type 0 where
  pub past : IsAtMost at low
  pub holds : IsBelow low high

-- Both sides begin with records that end at `at`, and answer at this many addresses. The spans after them are to come.
pub record IsPast {S D M : Type 0} (to_come : S → List Span → Type 0) (spans : S) (comparison : Comparison S D M) (at : Position)
    (answered : ℕ) : Type 0 where
  pub at_is : end_of_records comparison.merge ≡ at
  pub gap : comparison.merge.gap ≡ None
  pub mistake : comparison.merge.mistake ≡ None
  pub missed : comparison.merge.missed ≡ 0
  pub answered_is : comparison.merge.answered ≡ answered
  pub ahead : (list : List Span) → to_come spans list → IsAhead to_come comparison.merge.spans list

-- One more record was compared.
pub record HasPushed {S D M Y : Type 0} (to_come : S → List Span → Type 0) (tell : Answer → Y) (value_of : D → Stretch Y)
    (old new : Comparison S D M) (low high : Position) (said : Y) : Type 0 where
  pub comes : Comes (end_of_records old.merge) low high
  pub at : end_of_records new.merge ≡ high
  pub merged : (list : List Span) (by_table by_more : Position → Option Y) → HasMerged to_come tell value_of old.merge list by_table
      → HasOneMore by_table by_more (end_of_records old.merge) low high said → HasMerged to_come tell value_of new.merge list by_more

-- These records are a table so far, and were compared with the section.
pub record Judges {S D M V X Y : Type 0} (to_come : S → List Span → Type 0) (kind : TableKind V X Y D) (tell : Answer → Y)
    (version : V) (comparison : Comparison S D M) (section : List Span) (records : List Fields) : Type 0 where
  pub table : List X
  pub is_table : IsTableIn kind.format version records table
  pub at : end_of_records comparison.merge ≡ last_end kind.spans table
  pub merged : HasMerged to_come tell kind.stretch comparison.merge section (answer_held kind.spans table)

-- These lines follow the header, and their records were compared with spans that answer as the section does. The next record has the
-- number `next`.
pub record HasPassed {S D M V X Y : Type 0} (to_come : S → List Span → Type 0) (kind : TableKind V X Y D) (plain : LineFormat V X)
    (tell : Answer → Y) (version : V) (comparison : Comparison S D M) (section : List Span) (text : List ℕ) (next : ℕ) : Type 0 where
  pub records : List Fields
  pub count : next ≡ length records + 1
  pub text_is : text ≡ lines_of plain.line records
  pub list : List Span
  pub alike : AnswerAlike tell list section
  pub judged : Judges to_come kind tell version comparison list (kind.format.names version ∷ records)

-- All records of the bytes were compared, and in the scope the table was judged to be this.
pub record HasJudged {S D M Y : Type 0} (scope : Scope) (to_come : S → List Span → Type 0) (tell : Answer → Y) (value_of : D → Stretch Y)
    (judges : Comparison S D M → List Span → List Fields → Type 0) (list : List Span) (passed : List Fields) (bytes : List ℕ)
    (judged : Result Coverage D) : Type 0 where
  pub comparison : Comparison S D M
  pub more : List Fields
  pub all : RecordsOf bytes (passed ++ more)
  pub records : judges comparison list (passed ++ more)
  pub judged_is : (by_table : Position → Option Y) → HasMerged to_come tell value_of comparison.merge list by_table
      → IsJudged scope value_of (answer_told tell list) by_table judged

-- Or this is the first fault.
abbrev pub HasCompared : {S D M Y : Type 0} → Scope → (S → List Span → Type 0) → (Answer → Y) → (D → Stretch Y)
    → (Comparison S D M → List Span → List Fields → Type 0) → (List ℕ → TableFault → Type 0) → List Span → List Fields → List ℕ → Outcome D
    → Type 0
HasCompared scope to_come tell value_of judges is_fault list passed bytes (read.Fault told) = is_fault bytes told
HasCompared scope to_come tell value_of judges is_fault list passed bytes (read.Table judged) =
    HasJudged scope to_come tell value_of judges list passed bytes judged

-- ---- a table that is compared as it comes

-- The first lines of a table were compared with spans as these came, and the lines after them were parsed. The other records were read
-- from `all`: the header, then the bytes after these lines. The outcome is that of the table in the scope. Before, the source had
-- `source`, and the window `window`.
pub record HasComparedLines {S R D M V X Y : Type 0} (scope : Scope) (coming : S → List Span → Type 0) (to_come : R → List Span → Type 0)
    (format : TableFormat V X) (plain : LineFormat V X) (tell : Answer → Y) (told : Span → X) (value_of : D → Stretch Y) (version : V)
    (judges : Comparison R D M → List Span → List Fields → Type 0) (is_fault : List ℕ → TableFault → Type 0) (section : S)
    (source : Option (List ℕ)) (may_give : ℕ) (window : List ℕ) (outcome : Outcome D) : Type 0 where
  pub table : List Span
  pub compared : List ℕ
  pub count : ℕ
  pub end : Position
  pub lines : AreLinesOf format plain told version compared table count end
  pub spans : R
  pub answered : ℕ
  pub left : (list : List Span) → coming section list → AreInOrder list
      → LeaveOff tell (to_come spans) list table × (answered ≡ addresses_of table)
  pub old : Comparison R D M
  pub past : IsPast to_come spans old end answered
  pub new : Comparison R D M
  pub parsed : List ℕ
  pub next : ℕ
  pub taken : HasTakenLines format plain version judges old new parsed count next
  pub source_after : Option (List ℕ)
  pub may_still : ℕ
  pub window_after : List ℕ
  pub passes : Passes source source_after may_give may_still window window_after (compared ++ parsed)
  pub all : List ℕ
  pub ends : Ends source_after may_still (plain.line (plain.names version) ++ window_after) all
  pub found : (first : Fields) (list : List Span) (passed : List Fields) (bytes : List ℕ) → IsNarrow first → BeginsWith all (first ∷ [])
      → IsCutAfter first all bytes passed → judges new list passed → next ≡ length passed
      → HasCompared scope to_come tell value_of judges is_fault list passed bytes outcome

-- ---- spans of a table by number that are gathered

-- These records are a table so far, of the spans in `before` and then the gathered ones.
pub record Gathers (version : Version) (gathering : Gathering) (before : List Span) (records : List Fields) : Type 0 where
  pub is_table : IsTable version records (before ++ gathering.spans.items)
  pub at : gathering.at ≡ end_of (before ++ gathering.spans.items)

-- After the records of the spans in `table`, the bytes have the records of the gathered spans, or a fault.
abbrev pub IsGathered : List ℕ → Version → List Span → TableRead (Vec Span Global) → Type 0
IsGathered bytes version table (read.Fault told) = IsFault bytes told
IsGathered bytes version table (read.Table spans) = IsTableOf version bytes (table ++ spans.items)

-- The spans in `table` and then `rest` are in order and answer as the section does, in the fields of the version; the ones
-- in `table` end at `at`, and answer at this many addresses.
pub record IsContinuedBy (version : Version) (section : Position → Option Answer) (table rest : List Span) (at : Position) (answered : ℕ)
    : Type 0 where
  pub order : AreInOrder (table ++ rest)
  pub same : (p : Position) → version_answer version (table ++ rest) p ≡ option_map (in_version version) (section p)
  pub end_is : at ≡ end_of table
  pub answered_is : answered ≡ addresses_of table
