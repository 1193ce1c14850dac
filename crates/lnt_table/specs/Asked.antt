-- What is said of asking the live sequences for the answers of a table, stretch by stretch.
use Rattle.std.specs.Prelude.{◌≡◌, ℕ, ◌+◌, ◌<◌, ◌≤◌, Bool, true, false, List, [], ◌∷◌, length, get_or, Option, Some, None}
use Rattle.std.specs.Prelude.{Contains, MatchOption, Result, Ok, Err, unwrap_or}
use Rattle.lnt_spans.specs.declared.answer.Answer.{Answer}
use Rattle.lnt_spans.specs.declared.position.Position.{Position}
use Rattle.lnt_spans.specs.AnyStretches.{Stretch}
use Rattle.lnt_spans.specs.Partial.{AreCounts}
use Rattle.lnt_spans.specs.Positions.{IsAtMost, IsBelow}
use Rattle.lnt_sequences.specs.Copies.{AreExtentsOf}
use Rattle.lnt_sequences.specs.declared.extent.Extent.{Extent}
use Rattle.lnt_sequences.specs.Sequences.{answer_in, live_sequences, Placed, Selection}
use Rattle.lnt_lines.specs.Cursors.{AreToCome, Cursor}
use Rattle.lnt_lines.specs.Indexed.{IsIndexOf, Indexed}
use Rattle.lnt_table.specs.declared.copies.Copies.{Copies}
use Rattle.lnt_spans.specs.declared.scope.Scope.{Scope}
use Rattle.lnt_spans.specs.declared.scope.Scope.TheVariants.{All, Answered}
use Rattle.lnt_spans.specs.declared.scope.Coverage.{Coverage}
use Rattle.lnt_table.specs.declared.said.SequenceSpans.{SequenceSpans}
use Rattle.lnt_table.specs.declared.wrong.Piece.{Piece}
use Rattle.lnt_table.specs.AnyCopy.{IsFirstWrong, IsRightIn}
use Rattle.lnt_table.specs.Said.{AnswersFrom, SaysFrom}
use Rattle.lnt_table.specs.Groups.{IsGroup}

-- ---- from a position up to another

-- From `low` up to `high` it is so.
abbrev pub IsSoFrom : (Position → Type 0) → Position → Position → Type 0
IsSoFrom IsSo low high = (p : Position) → IsAtMost low p → IsBelow p high → IsSo p

-- This is the least position from `low` up to `high` at which it isn't so.
pub record IsLeastNot (IsSo : Position → Type 0) (low high position : Position) : Type 0 where
  pub past : IsAtMost low position
  pub below : IsBelow position high
  pub not_so : IsSo position → ⊥
  pub least : IsSoFrom IsSo low position

-- Such a position was found; or it is so from `low` up to `high`.
abbrev pub FindsLeastNot : (Position → Type 0) → Position → Position → Option Position → Type 0
FindsLeastNot IsSo low high found = MatchOption found (IsSoFrom IsSo low high) (IsLeastNot IsSo low high)

-- Whether it is so at a position at which the search goes on: one says this, or, if that is looked for, none does.
abbrev pub IsPassed : Bool → Type 0 → Type 0
IsPassed true IsSo = IsSo → ⊥
IsPassed false IsSo = IsSo

-- ---- the next stretch

-- From `low` up to `end` these are the first positions at which it isn't so: the least, and the first after it at which it is, or `end`.
pub record IsPiece (IsSo : Position → Type 0) (low end : Position) (piece : Piece) : Type 0 where
  pub least : IsLeastNot IsSo low end piece.low
  pub past : IsBelow piece.low piece.high
  pub upto : IsAtMost piece.high end
  pub not_so : IsSoFrom (λ p. IsSo p → ⊥) piece.low piece.high
  pub over : IsBelow piece.high end → (IsSo piece.high → ⊥) → ⊥

-- Such positions were found; or it is so from `low` up to `end`.
abbrev pub FindsPiece : (Position → Type 0) → Position → Position → Option Piece → Type 0
FindsPiece IsSo low end found = MatchOption found (IsSoFrom IsSo low end) (IsPiece IsSo low end)

-- where the positions that were judged end
abbrev pub piece_end : Position → Option Piece → Position
piece_end end None = end
piece_end end (Some piece) = piece.high

-- ---- the copies of an index

-- They are those of the index with all live sequences.
pub record AreCopies (copies : Copies) : Type 0 where
  pub extents : copies.group.extents.now ≡ copies.index.now.live
  pub group : IsGroup copies.group.extents.now copies.group.first copies.group.begun copies.group.at

-- A cursor is held for each sequence of the group.
pub record AreAllReady (copies : Copies) : Type 0 where
  pub first : copies.held ≤ copies.group.first
  pub begun : copies.held + length copies.sequences.items ≡ copies.group.begun

-- This is so of the units that the index is of, whichever they are, if it has the extents of all of their live sequences.
abbrev pub OfLive : Indexed → (Selection → Type 0) → Type 0
OfLive index IsSo = (selection : Selection) → IsIndexOf selection index
    → AreExtentsOf (live_sequences selection.dead selection.units) index.live → IsSo selection

-- This is so of each of these and of what the live sequence with the id of an extent answers, from a place in the extents on.
abbrev pub AreSequencesFrom : (SequenceSpans Cursor → (Position → Option Answer) → Type 0) → Selection → List Extent → ℕ
    → List (SequenceSpans Cursor) → Type 0
AreSequencesFrom IsSo selection extents first sequences = (k : ℕ) (d : SequenceSpans Cursor) (e : Extent) → k < length sequences
    → (placed : Placed) → Contains (live_sequences selection.dead selection.units) placed
    → placed.id ≡ (get_or extents (first + k) e).id → IsSo (get_or sequences k d) (answer_in (placed ∷ []))

-- From any position on it answers as the function does.
abbrev pub IsWholeSource : SequenceSpans Cursor → (Position → Option Answer) → Type 0
IsWholeSource sequence answers = (at : Position) → AnswersFrom AreToCome sequence at answers

-- From this position on each answers as its sequence does.
abbrev pub AreWhole : Selection → Copies → Position → Type 0
AreWhole selection copies whole = AreSequencesFrom (λ sequence. AnswersFrom AreToCome sequence whole) selection copies.group.extents.now
    copies.held copies.sequences.items

-- They do; and if the table answers, each says what it does from `at` on, exactly where its sequence says it.
abbrev pub AreReady : {X : Type 0} → (Answer → X) → Selection → Copies → Option X → Position → Position → Type 0
AreReady tell selection copies None at whole = AreWhole selection copies whole
AreReady tell selection copies (Some told) at whole = AreSequencesFrom (λ sequence. SaysFrom AreToCome tell told sequence at whole)
    selection copies.group.extents.now copies.held copies.sequences.items

-- From `low` up to `to` the search for a turn goes on at each position, and not at `to`, if that is below `high`.
pub record IsTurn {X : Type 0} (is_said : Bool) (said : Position → Option X → Type 0) (told : Option X) (low high to : Position) : Type 0
  where
    pub passed : IsSoFrom (λ p. IsPassed is_said (said p told)) low to
    pub found : IsBelow to high → IsPassed is_said (said to told) → ⊥

-- If they were ready from `low` on, the least position from there up to `high` was found at which one says this, or none does; and they are
-- ready from there on.
abbrev pub FindsTurn : {X : Type 0} → Bool → (Position → Option X → Type 0) → (Option X → Position → Position → Type 0)
    → (Option X → Position → Position → Type 0) → Option X → Position → Position → Option Position → Type 0
FindsTurn is_said said WereReady AreNowReady told low high found = WereReady told low high
    → FindsLeastNot (λ p. IsPassed is_said (said p told)) low high found × AreNowReady told (unwrap_or found high) high

-- ---- what asking comes to

-- The table is wrong at this position first; or it is right at each position of the scope, and answers so much.
abbrev pub IsAsked : {X D : Type 0} → Scope → (D → Stretch X) → (Position → Option X → Type 0) → (Position → Option X)
    → (Position → Option X) → Result Coverage D → Type 0
IsAsked scope stretch said by_section by_table (Err wrong) = IsFirstWrong scope said by_section by_table (stretch wrong)
IsAsked scope stretch said by_section by_table (Ok coverage) = ((p : Position) → IsRightIn scope said by_table p)
    × AreCounts by_table by_section coverage.answered coverage.all

-- what is left of a stretch at which the table doesn't answer, if it counts
abbrev pub unanswered_in : Scope → Position → Position → Option Piece
unanswered_in All low high = Some (record { low = low; high = high })
unanswered_in Answered low high = None
