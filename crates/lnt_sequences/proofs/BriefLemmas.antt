-- Rows in brief: how they are kept, and that the last of them that isn't above a position answers there as all rows do.
use Rattle.std.proofs.Common.{◌≡◌, ℕ, zero, suc, ◌-◌, ◌<◌, ◌≤◌, Bool, true, false, List, [], ◌∷◌, ◌++◌, length, get_or, take, drop, Option}
use Rattle.std.proofs.Common.{Some, None, refl, sym, ap, ◌∙◌, subst, arith, append_assoc, MatchBool, option_map, true≢false}
use Rattle.std.proofs.Common.{take-append-drop}
use Rattle.std.specs.List.{AllZip}
use Rattle.std.proofs.lemmas.Slice.Zip.{all_zipped_more, AllZip-long}
use Rattle.lnt_machine.specs.declared.row.Row.{Row}
use Rattle.lnt_machine.specs.Walking.{ComesShort, GivesFirstRow, GivesRow, SequenceWalk, WillGive}
use Rattle.lnt_spans.specs.declared.answer.Answer.{Answer}
use Rattle.lnt_spans.specs.declared.position.Position.{Position}
use Rattle.lnt_spans.specs.Positions.{IsAtMost, IsBelow}
use Rattle.lnt_sequences.specs.declared.brief.BriefRow.{BriefRow}
use Rattle.lnt_sequences.specs.declared.brief.BriefRows.{BriefRows}
use Rattle.lnt_sequences.specs.Briefs.{AreInBrief, AreKept, brief_answer, IsAdded, IsInBrief, IsReachedIn, onto, place_of, WereKept}
use Rattle.lnt_sequences.specs.Briefs.{IsNotAbove}
use Rattle.lnt_sequences.specs.Rules.{IsOrdered}
use Rattle.lnt_sequences.specs.Sequences.{answer_of, last_row, position_of, row_at}
use Rattle.lnt_sequences.proofs.CheckpointLemmas.{found_before, ordered_tail}
use Rattle.lnt_sequences.proofs.RowLemmas.{none_at, rising_from_ordered}
use Rattle.std.proofs.lemmas.Grind.{common_steps}

-- ---- rows are kept one after another

pub kept_none : (rows : List Row) (brief : BriefRows) (walk : SequenceWalk) → brief.rows.items ≡ [] → WillGive rows walk
    → AreKept rows brief walk
kept_none rows brief walk none will = record {
  kept = [];
  others = rows;
  rows_are = refl;
  kept_are = subst (AllZip (IsInBrief brief.base) []) (sym none) tt;
  to_come = will;
}

-- the same of other rows to come
pub kept_same : (rows : List Row) (brief : BriefRows) (old walk : SequenceWalk) → AreKept rows brief old
    → ((others : List Row) → WillGive others old → WillGive others walk) → AreKept rows brief walk
kept_same rows brief old walk are same = record {
  kept = are.kept;
  others = are.others;
  rows_are = are.rows_are;
  kept_are = are.kept_are;
  to_come = same are.others are.to_come;
}

-- a short operation without a row
pub comes_quiet : (old new : SequenceWalk) (made : Option Row) → ComesShort old (Some made) new → ((row : Row) → made ≡ Some row → ⊥)
    → (others : List Row) → WillGive others old → WillGive others new
comes_quiet old new None comes quiet = comes
comes_quiet old new (Some row) comes quiet = absurd (quiet row refl)

-- a short operation and its row
pub comes_row : (old new : SequenceWalk) (made : Option Row) (row : Row) → ComesShort old (Some made) new → made ≡ Some row
    → GivesRow old (Some row) new
comes_row old new made row comes is = subst (λ (m : Option Row). ComesShort old (Some m) new) is comes

pub kept_more : (rows : List Row) (brief new : BriefRows) (old walk : SequenceWalk) (row : Row) → AreKept rows brief old
    → GivesRow old (Some row) walk → IsAdded row brief new → new.base ≡ brief.base → AreKept rows new walk
kept_more rows brief new old walk row are gives is base = by_others are.others are.rows_are (gives are.others are.to_come)
  where
    by_others : (others : List Row) → rows ≡ are.kept ++ others → GivesFirstRow others (Some row) walk → AreKept rows new walk
    by_others [] same g = absurd g
    by_others (first ∷ others) same g = record {
      kept = are.kept ++ row ∷ [];
      others = others;
      rows_are = same ∙ ap (λ (r : Row). are.kept ++ r ∷ others) (sym g.0) ∙ sym (append_assoc are.kept (row ∷ []) others);
      kept_are = subst (λ (b : ℕ). AllZip (IsInBrief b) (are.kept ++ row ∷ []) new.rows.items) (sym base)
          (subst (AllZip (IsInBrief brief.base) (are.kept ++ row ∷ [])) (sym is.added)
          (all_zipped_more (IsInBrief brief.base) are.kept brief.rows.items row is.one are.kept_are is.in_brief));
      to_come = g.1;
    }

-- no row is left
pub kept_all : (rows : List Row) (brief whole : BriefRows) (old walk : SequenceWalk) → AreKept rows brief old → GivesRow old None walk
    → whole.base ≡ brief.base → whole.rows.items ≡ brief.rows.items → AreInBrief rows whole
kept_all rows brief whole old walk are gives base items = by_others are.others are.rows_are (gives are.others are.to_come)
  where
    by_others : (others : List Row) → rows ≡ are.kept ++ others → GivesFirstRow others None walk → AreInBrief rows whole
    by_others [] same g = record {
      kept = are.kept;
      others = [];
      rows_are = same;
      kept_are = subst (λ (b : ℕ). AllZip (IsInBrief b) are.kept whole.rows.items) (sym base)
          (subst (AllZip (IsInBrief brief.base) are.kept) (sym items) are.kept_are);
      none_other = λ e. refl;
    }
    by_others (first ∷ others) same g = absurd g

-- some may be left
pub kept_some : (rows : List Row) (brief : BriefRows) → WereKept rows brief → brief.is_whole ≡ false → AreInBrief rows brief
kept_some rows brief (walk, are) part = grind (arith, common_steps, true≢false)

-- ---- what they answer

zip_at : {X Y : Type 0} (R : X → Y → Type 0) (xs : List X) (ys : List Y) (k : ℕ) (x : X) (y : Y) → AllZip R xs ys → k < length ys
    → R (get_or xs k x) (get_or ys k y)
zip_at R xs [] k x y all few = absurd (omega arith)
zip_at R [] (v ∷ ys) k x y all few = absurd all
zip_at R (u ∷ xs) (v ∷ ys) zero x y all few = all.0
zip_at R (u ∷ xs) (v ∷ ys) (suc k) x y all few = zip_at R xs ys k x y all.1 (omega arith)

last_taken : (rows : List Row) (k : ℕ) (d : Row) → k < length rows → last_row (take (suc k) rows) ≡ Some (get_or rows k d)
last_taken [] k d few = absurd (omega arith)
last_taken (row ∷ rows) zero d few = refl
last_taken (row ∷ []) (suc k) d few = absurd (omega arith)
last_taken (row ∷ next ∷ rows) (suc k) d few = last_taken (next ∷ rows) k d (omega arith)

first_dropped : (rows : List Row) (k : ℕ) (d row : Row) (more : List Row) → drop k rows ≡ row ∷ more
    → get_or rows k d ≡ row × (k < length rows)
first_dropped [] zero d row more e = absurd cc
first_dropped [] (suc k) d row more e = absurd cc
first_dropped (first ∷ rows) zero d row more e = (ap (λ (list : List Row). get_or list 0 d) e, omega arith)
first_dropped (first ∷ rows) (suc k) d row more e = let one = first_dropped rows k d row more e in (one.0, omega (arith, one.1))

none_dropped : (rows : List Row) (k : ℕ) → drop k rows ≡ [] → length rows ≤ k
none_dropped [] k e = omega arith
none_dropped (first ∷ rows) zero e = absurd cc
none_dropped (first ∷ rows) (suc k) e = let more = none_dropped rows k e in omega (arith, more)

onto_below : (base : ℕ) (p q : Position) → IsBelow p q → IsBelow (onto base p) (onto base q)
onto_below base p q below = grind (arith, common_steps)

onto_at_most : (base : ℕ) (p q : Position) → IsAtMost p q → IsAtMost (onto base p) (onto base q)
onto_at_most base p q below = grind (arith, common_steps)

-- any row
some_brief : BriefRow
some_brief = record { address = 0; line = 0; file = 0; column = 0; discriminator = 0; op_index = 0; is_stmt = false }

row_below : (brief : BriefRows) (p place : Position) (row : Row) (one : BriefRow) → p ≡ onto brief.base place
    → IsInBrief brief.base row one → IsBelow place (place_of one) → IsBelow p (position_of row)
row_below brief p place row one same is below = grind (arith, common_steps, onto_below)

row_at_most : (brief : BriefRows) (p place : Position) (row : Row) (one : BriefRow) → p ≡ onto brief.base place
    → IsInBrief brief.base row one → IsAtMost (place_of one) place → IsAtMost (position_of row) p
row_at_most brief p place row one same is most = grind (arith, common_steps, onto_at_most)

-- none of the rows after the first `count` is at or below the position
none_after : (rows : List Row) (brief : BriefRows) (p : Position) (count : ℕ) → (are : AreInBrief rows brief) → IsReachedIn brief p count
    → IsOrdered (drop count are.kept ++ are.others) → row_at p (drop count are.kept ++ are.others) ≡ None
none_after rows brief p count are is ordered = by_left (drop count are.kept) refl ordered
  where
    by_whole : (whole : Bool) → brief.is_whole ≡ whole → length are.kept ≤ count → are.others ≡ []
    by_whole true e few = are.none_other e
    by_whole false e few =
        let more = is.known (λ t. true≢false (sym t ∙ e)) in
        let same = AllZip-long (IsInBrief brief.base) are.kept brief.rows.items are.kept_are in
        absurd (omega (arith, more, same, few))

    by_left : (left : List Row) → drop count are.kept ≡ left → IsOrdered (left ++ are.others) → row_at p (left ++ are.others) ≡ None
    by_left [] e o = ap (row_at p) (by_whole brief.is_whole refl (none_dropped are.kept count e))
    by_left (row ∷ left) e o =
        let first = first_dropped are.kept count row row left e in
        let same = AllZip-long (IsInBrief brief.base) are.kept brief.rows.items are.kept_are in
        let few : count < length brief.rows.items = omega (arith, first.1, same) in
        none_at p row (left ++ are.others) (rising_from_ordered row (left ++ are.others) o)
        (row_below brief p is.place row (get_or brief.rows.items count some_brief) is.position_is
        (subst (λ (r : Row). IsInBrief brief.base r (get_or brief.rows.items count some_brief)) first.0
        (zip_at (IsInBrief brief.base) are.kept brief.rows.items count row some_brief are.kept_are few)) (is.reached.next some_brief few))

-- what is said of the first `count` rows
abbrev pub SaysLast : ℕ → List BriefRow → ℕ → Option Answer → Type 0
SaysLast unit rows count answer = (count ≡ 0 → answer ≡ None)
    × (0 < count → (d : BriefRow) → answer ≡ Some (brief_answer unit (get_or rows (count - 1) d)))

-- what the last of them says
last_said : (rows : List Row) (brief : BriefRows) (p : Position) (unit count : ℕ) (answer : Option Answer) → (are : AreInBrief rows brief)
    → IsReachedIn brief p count → SaysLast unit brief.rows.items count answer
    → IsNotAbove (last_row (take count are.kept)) p × (answer ≡ option_map (answer_of unit) (last_row (take count are.kept)))
last_said rows brief p unit zero answer are is says = (tt, says.0 refl)
last_said rows brief p unit (suc k) answer are is says =
    let same = AllZip-long (IsInBrief brief.base) are.kept brief.rows.items are.kept_are in
    let within = is.reached.within in
    let few : k < length brief.rows.items = omega (arith, within) in
    by_row are.kept are.kept_are (omega (arith, few, same)) few
  where
    by_row : (kept : List Row) → AllZip (IsInBrief brief.base) kept brief.rows.items → k < length kept → k < length brief.rows.items
        → IsNotAbove (last_row (take (suc k) kept)) p × (answer ≡ option_map (answer_of unit) (last_row (take (suc k) kept)))
    by_row [] all less few = absurd (omega arith)
    by_row (first ∷ kept) all less few =
        let row = get_or (first ∷ kept) k first in
        let one = get_or brief.rows.items k some_brief in
        let in_brief : IsInBrief brief.base row one =
        zip_at (IsInBrief brief.base) (first ∷ kept) brief.rows.items k first some_brief all few in
        let last : last_row (take (suc k) (first ∷ kept)) ≡ Some row = last_taken (first ∷ kept) k first less in
        let back : suc k - 1 ≡ k = omega arith in
        let most = is.reached.last some_brief (omega arith) in
        let said = says.1 (omega arith) some_brief in (
          subst (λ (o : Option Row). IsNotAbove o p) (sym last)
              (row_at_most brief p is.place row one is.position_is in_brief (rw back at most)),
          rw back at said ∙ ap Some (sym (in_brief.answer_is unit)) ∙ ap (option_map (answer_of unit)) (sym last),
        )

pub brief_answers : (rows : List Row) (brief : BriefRows) (p : Position) (unit count : ℕ) (answer : Option Answer) → AreInBrief rows brief
    → IsReachedIn brief p count → SaysLast unit brief.rows.items count answer → IsOrdered rows
    → answer ≡ option_map (answer_of unit) (row_at p rows)
brief_answers rows brief p unit count answer are is says ordered =
    let left = drop count are.kept ++ are.others in
    let cut : rows ≡ take count are.kept ++ left = are.rows_are
    ∙ ap (λ (list : List Row). list ++ are.others) (sym (take-append-drop count are.kept))
    ∙ append_assoc (take count are.kept) (drop count are.kept) are.others in
    let said = last_said rows brief p unit count answer are is says in
    let none = none_after rows brief p count are is (ordered_tail (take count are.kept) left (subst IsOrdered cut ordered)) in
    said.1 ∙ ap (option_map (answer_of unit)) (found_before p (take count are.kept) left none said.0 ∙ ap (row_at p) (sym cut))

-- ---- whether a row was kept

pub was_kept : (A B : Type 0) (b : Bool) → MatchBool b A B → b ≡ true → A
was_kept A B true m e = m
was_kept A B false m e = absurd cc

pub wasnt_kept : (A B : Type 0) (b : Bool) → MatchBool b A B → b ≡ false → B
wasnt_kept A B true m e = absurd cc
wasnt_kept A B false m e = m
