-- What the live sequences that hold a position say, by the spans of each.
use Rattle.std.proofs.Common.{◌≡◌, ◌∙◌, ℕ, ◌+◌, ◌-◌, ◌<◌, ◌≤◌, Bool, true}
use Rattle.std.proofs.Common.{false, List, [], ◌∷◌, ◌++◌, Option, Some, None, ap, sym, refl, subst}
use Rattle.std.proofs.Common.{arith, length, get_or, take, drop, option_map, ◌⊎◌, inl, inr}
use Rattle.std.specs.List.{Contains}
use Rattle.std.proofs.lemmas.Bool.{cases_lt}
use Rattle.std.proofs.lemmas.List.{get_or_default, get_or_push, length-append}
use Rattle.std.proofs.Math.ListN.{get_or-append}
use Rattle.std.proofs.Math.Seq.{take-append_seam}
use Rattle.std.proofs.lemmas.Option.{same_Some}
use Rattle.lnt_machine.specs.declared.row.Row.{Row}
use Rattle.lnt_spans.specs.declared.answer.Answer.{Answer}
use Rattle.lnt_spans.specs.declared.position.Position.{Position}
use Rattle.lnt_spans.specs.Positions.{IsAtMost, IsBelow}
use Rattle.lnt_spans.specs.Spans.{span_answer}
use Rattle.lnt_spans.proofs.PositionLaws.{at_most_trans, below_at_most, not_both, order_cases}
use Rattle.lnt_sequences.specs.declared.extent.Extent.{Extent}
use Rattle.lnt_sequences.specs.Copies.{AreExtentsOf, ExtentsOfSequences, IsAnyAnswer, IsSaid}
use Rattle.lnt_sequences.specs.Sequences.{answer_in, answer_of, holds, Holds, live_sequences, Placed, row_at, Selection}
use Rattle.lnt_sequences.proofs.ExtentLemmas.{holds_from_test, test_from_holds}
use Rattle.lnt_sequences.proofs.OverlapLemmas.{sorted_far}
use Rattle.lnt_lines.specs.Indexed.{IsIndexOf}
use Rattle.lnt_lines.specs.Cursors.{AreToCome, Cursor, GivesSequence}
use Rattle.lnt_table.specs.declared.said.SequenceSpans.{SequenceSpans}
use Rattle.lnt_table.specs.declared.copies.Copies.{Copies}
use Rattle.lnt_table.specs.Asked.{AreReady, AreSequencesFrom, AreWhole, IsSoFrom, IsTurn, IsWholeSource}
use Rattle.lnt_table.specs.Groups.{BeginFrom, BeginInTurn, HaveEnded}
use Rattle.lnt_table.specs.Said.{AnswersFrom, NoneSays, OneSays, Says, SaysFrom, StillSay, TurnsAt}
use Rattle.lnt_table.proofs.SaidLemmas.{from_later, none_says}

-- a list with an element has a first one
some_of : {A : Type 0} (list : List A) (k : ℕ) → k < length list → A
some_of [] k lt = absurd (omega (arith, lt))
some_of (x ∷ list) k lt = x

-- ---- what one sequence answers

answers_held : (placed : Placed) (p : Position) → Holds placed.rows p
    → answer_in (placed ∷ []) p ≡ option_map (answer_of placed.id.unit) (row_at p placed.rows)
answers_held placed p h = rw (test_from_holds placed.rows p h) refl

answers_unheld : (placed : Placed) (p : Position) → (Holds placed.rows p → ⊥) → answer_in (placed ∷ []) p ≡ None
answers_unheld placed p unheld = by_test (holds p placed.rows) refl
  where
    by_test : (t : Bool) → holds p placed.rows ≡ t → answer_in (placed ∷ []) p ≡ None
    by_test true e = absurd (unheld (holds_from_test placed.rows p e))
    by_test false e = rw e refl

-- so do its spans
pub spans_alone : (placed : Placed) (cursor : Cursor) (g : GivesSequence placed cursor) (p : Position)
    → span_answer g.spans p ≡ answer_in (placed ∷ []) p
spans_alone placed cursor g p = by_test (holds p placed.rows) refl
  where
    by_test : (t : Bool) → holds p placed.rows ≡ t → span_answer g.spans p ≡ answer_in (placed ∷ []) p
    by_test true e = let h = holds_from_test placed.rows p e in g.held p h ∙ sym (answers_held placed p h)
    by_test false e =
        let unheld : Holds placed.rows p → ⊥ = λ h. (let t : true ≡ false = sym (test_from_holds placed.rows p h) ∙ e in cc t) in
        g.unheld p unheld ∙ sym (answers_unheld placed p unheld)

module _ {X : Type 0} (tell : Answer → X) (told : X) (selection : Selection) where
  -- what a live sequence says, one of them says
  said_alone : (placed : Placed) (p : Position) → Contains (live_sequences selection.dead selection.units) placed
      → Says tell told (answer_in (placed ∷ [])) p → IsAnyAnswer tell selection p (Some told)
  said_alone placed p contained says = by_test (holds p placed.rows) refl
    where
      by_row : (row : Option Row) → row_at p placed.rows ≡ row → Holds placed.rows p
          → option_map tell (option_map (answer_of placed.id.unit) row) ≡ Some told → IsAnyAnswer tell selection p (Some told)
      by_row None at h is = cc is
      by_row (Some row) at h is = (
        answer_of placed.id.unit row,
        record { placed = placed; contained = contained; holds = h; answer_is = ap (option_map (answer_of placed.id.unit)) at },
        same_Some (tell (answer_of placed.id.unit row)) told is,
      )

      by_test : (t : Bool) → holds p placed.rows ≡ t → IsAnyAnswer tell selection p (Some told)
      by_test true e =
          let h = holds_from_test placed.rows p e in
          by_row (row_at p placed.rows) refl h (sym (ap (option_map tell) (answers_held placed p h)) ∙ says)
      by_test false e = absurd (none_says tell told (answer_in (placed ∷ [])) p (rw e refl) says)

  -- and what one of them says, it says
  alone_said : (p : Position) (answer : Answer) (is : IsSaid (live_sequences selection.dead selection.units) p answer)
      → tell answer ≡ told → Says tell told (answer_in (is.placed ∷ [])) p
  alone_said p answer is same =
      ap (option_map tell) (answers_held is.placed p is.holds ∙ is.answer_is) ∙ ap (λ (x : X). Some x) same

  -- ---- the sequences of a group

  module _ (law : ExtentsOfSequences) (extents : List Extent) (held begun : ℕ) (at whole : Position)
      (sequences : List (SequenceSpans Cursor)) (are : AreExtentsOf (live_sequences selection.dead selection.units) extents)
      (within : begun ≤ length extents) (ended : HaveEnded extents held at) (count : held + length sequences ≡ begun)
      (ready : AreSequencesFrom (λ sequence. SaysFrom AreToCome tell told sequence at whole) selection extents held sequences) where
    -- an extent of the group is that of a live sequence
    one_said_any : (p : Position) → OneSays AreToCome tell told sequences at p → IsAnyAnswer tell selection p (Some told)
    one_said_any p says =
        let k = says.0 in
        let d : SequenceSpans Cursor = some_of sequences k says.1 in
        let e : Extent = record { low = at; high = at; id = record { unit = 0; index = 0 } } in
        let extent : Extent = get_or extents (held + k) e in
        let inside : held + k < length extents = omega (arith, says.1, count, within) in
        let one = law.one (live_sequences selection.dead selection.units) extents extent are
        (held + k, inside, get_or_default extents (held + k) extent e inside) in
        said_alone one.0 p one.1.contained
        (says.2 d whole (answer_in (one.0 ∷ [])) (ready k d e says.1 one.0 one.1.contained one.1.id_is))

    -- each live sequence that holds a position of the group is in it
    none_said_any : (end p : Position) → (BeginInTurn extents → BeginFrom extents begun end) → IsAtMost at p → IsBelow p end
        → NoneSays AreToCome tell told sequences at p → IsAnyAnswer tell selection p (Some told) → ⊥
    none_said_any end p later le below none (answer, is, same) =
        let found = law.found (live_sequences selection.dead selection.units) extents is.placed p are is.contained is.holds in
        let extent : Extent = found.0 in
        let n : ℕ = found.1.0 in
        let here : get_or extents n extent ≡ extent = found.1.2 in
        let in_extent = found.2.into p is.holds in
        let turn : BeginInTurn extents = λ i j d le lt. (sorted_far extents are.sorted i j d le lt).low in
        let past : held ≤ n = elim (cases_lt n held) [
          | inr past ↦ past
          | inl early ↦ absurd (not_both in_extent.below
              (at_most_trans (subst (λ (e : Extent). IsAtMost e.high at) here (ended n extent early)) le))
        ] in
        let begun_is : n < begun = elim (cases_lt n begun) [
          | inl early ↦ early
          | inr late ↦ absurd (not_both below
              (at_most_trans (subst (λ (e : Extent). IsAtMost end e.low) here (later turn n extent late found.1.1)) in_extent.from))
        ] in
        let k : ℕ = n - held in
        let sum : held + k ≡ n = omega (arith, past) in
        let inside : k < length sequences = omega (arith, past, begun_is, count) in
        let d : SequenceSpans Cursor = some_of sequences k inside in
        none k d whole (answer_in (is.placed ∷ [])) inside
        (ready k d extent inside is.placed is.contained
        (found.2.id_is ∙ ap (λ (e : Extent). e.id) (sym here) ∙ ap (λ (i : ℕ). (get_or extents i extent).id) (sym sum)))
        (alone_said p answer is same)

    -- so a turn among them is one among all live sequences
    pub turn_of_any : (is_said : Bool) (end to : Position) → (BeginInTurn extents → BeginFrom extents begun end) → IsAtMost at to
        → IsAtMost to end
        → TurnsAt is_said (OneSays AreToCome tell told sequences at) (NoneSays AreToCome tell told sequences at) at end to
        → IsTurn is_said (IsAnyAnswer tell selection) (Some told) at end to
    turn_of_any false end to later past upto turns = record {
      passed = λ p le lt. one_said_any p (turns.0 p le lt);
      found = λ below. none_said_any end to later past below (turns.1 below);
    }
    turn_of_any true end to later past upto turns = record {
      passed = λ p le lt. none_said_any end p later le (below_at_most lt upto) (turns.0 p le lt);
      found = λ below unsaid. unsaid (one_said_any to (turns.1 below));
    }

-- ---- what the cursors are ready for

-- what was lent and came back as long is what is held
pub refilled : {X : Type 0} (n : ℕ) (old new : List X) → length new ≡ n → take n (new ++ drop (length new) old) ≡ new
refilled n old new same =
    subst (λ (m : ℕ). take m (new ++ drop (length new) old) ≡ new) same (take-append_seam new (drop (length new) old))

pub still_ready : {X : Type 0} (tell : Answer → X) (told : X) (selection : Selection) (extents : List Extent) (held : ℕ)
    (old new : List (SequenceSpans Cursor)) (at to end whole : Position) → StillSay AreToCome tell told old new at to end
    → IsAtMost end whole
    → AreSequencesFrom (λ sequence. SaysFrom AreToCome tell told sequence at whole) selection extents held old
    → AreSequencesFrom (λ sequence. SaysFrom AreToCome tell told sequence to whole) selection extents held new
still_ready tell told selection extents held old new at to end whole still upto ready k d e lt placed contained same =
    let inside : k < length old = omega (arith, lt, still.count) in
    still.each k d whole (answer_in (placed ∷ [])) inside upto (ready k d e inside placed contained same)

-- from a position on each gives the answers of its sequence
pub whole_from_ready : {X : Type 0} (tell : Answer → X) (selection : Selection) (copies : Copies) (told : Option X) (at whole : Position)
    → AreReady tell selection copies told at whole → AreWhole selection copies whole
whole_from_ready tell selection copies None at whole ready = ready
whole_from_ready tell selection copies (Some told) at whole ready = λ k d e lt placed contained same.
    (let one = ready k d e lt placed contained same in
    record { list = one.list; left = one.left; order = one.order; same = one.same })

pub whole_on : (selection : Selection) (copies : Copies) (at whole : Position) → AreWhole selection copies at → IsAtMost at whole
    → AreWhole selection copies whole
whole_on selection copies at whole are le = λ k d e lt placed contained same.
    from_later AreToCome _ at (answer_in (placed ∷ [])) (are k d e lt placed contained same) whole le

-- and then they are ready for any answer of the table
pub ready_from_whole : {X : Type 0} (tell : Answer → X) (selection : Selection) (copies : Copies) (told : Option X) (at whole : Position)
    → AreWhole selection copies at → IsAtMost at whole → AreReady tell selection copies told at whole
ready_from_whole tell selection copies None at whole are le = whole_on selection copies at whole are le
ready_from_whole tell selection copies (Some told) at whole are le = λ k d e lt placed contained same.
    (let one = are k d e lt placed contained same in
    record {
      list = one.list;
      left = one.left;
      order = one.order;
      says = λ p past says. sym (ap (option_map tell) (one.same p past)) ∙ says;
      said = λ p past says. ap (option_map tell) (one.same p past) ∙ says;
      same = λ p past. one.same p (at_most_trans le past);
    })

-- new cursors are too
pub ready_if_new : {X : Type 0} (tell : Answer → X) (selection : Selection) (copies : Copies) (told : Option X) (at whole : Position)
    → AreSequencesFrom IsWholeSource selection copies.group.extents.now copies.held copies.sequences.items → IsAtMost at whole
    → AreReady tell selection copies told at whole
ready_if_new tell selection copies told at whole new le =
    ready_from_whole tell selection copies told at whole (λ k d e lt placed contained same. new k d e lt placed contained same at) le

-- those that are kept are as ready as they were
pub ready_again : {X : Type 0} (tell : Answer → X) (told : X) (selection : Selection) (old new : Copies) (at whole : Position)
    → IsAtMost at whole → new.index ≡ old.index → new.group.extents ≡ old.group.extents
    → (((new.held ≡ old.held) × (new.sequences ≡ old.sequences)) ⊎ ((selection : Selection) → IsIndexOf selection new.index.now
    → AreSequencesFrom IsWholeSource selection new.group.extents.now new.held new.sequences.items))
    → IsIndexOf selection old.index.now → AreReady tell selection old (Some told) at whole
    → AreReady tell selection new (Some told) at whole
ready_again tell told selection old new at whole le index extents (inl kept) is ready =
    rw (extents, kept.0, kept.1) ready
ready_again tell told selection old new at whole le index extents (inr begun) is ready =
    ready_if_new tell selection new (Some told) at whole (begun selection (rw index is)) le

-- ---- from a position up to another

pub so_on : (IsSo : Position → Type 0) (low at to : Position) → IsSoFrom IsSo low at → IsSoFrom IsSo at to → IsSoFrom IsSo low to
so_on IsSo low at to one other p le lt = elim (order_cases p at) [ inl early ↦ one p le early | inr late ↦ other p late lt ]

-- ---- one sequence more

pub one_pushed : (selection : Selection) (extents : List Extent) (first place : ℕ) (sequences : List (SequenceSpans Cursor))
    (new : SequenceSpans Cursor) → AreSequencesFrom IsWholeSource selection extents first sequences → first + length sequences ≡ place
    → ((e : Extent) (placed : Placed) → Contains (live_sequences selection.dead selection.units) placed
    → placed.id ≡ (get_or extents place e).id → (at : Position) → AnswersFrom AreToCome new at (answer_in (placed ∷ [])))
    → AreSequencesFrom IsWholeSource selection extents first (sequences ++ new ∷ [])
one_pushed selection extents first place sequences new from sum one k d e lt placed contained same at =
    elim (cases_lt k (length sequences)) [
      | inl early ↦ subst (λ (s : SequenceSpans Cursor). AnswersFrom AreToCome s at (answer_in (placed ∷ [])))
          (sym (get_or-append sequences (new ∷ []) d k early)) (from k d e early placed contained same at)
      | inr late ↦
          let here : length sequences ≡ k = omega (arith, late, length-append sequences (new ∷ []), lt) in
          subst (λ (s : SequenceSpans Cursor). AnswersFrom AreToCome s at (answer_in (placed ∷ [])))
          (sym (get_or_push sequences new d k here))
          (one e placed contained (same ∙ ap (λ (i : ℕ). (get_or extents i e).id) (omega (arith, here, sum))) at)
    ]
