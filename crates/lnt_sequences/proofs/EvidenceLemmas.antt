-- The first row that shows something, and the sequence that it stands in.
use Rattle.std.proofs.Common.{◌≡◌, ℕ, ◌+◌, ◌<◌, ◌≤◌, Bool, true, false, not, cond, ◌&&◌, nat_le, List, [], ◌∷◌, ◌++◌, Option, Some, None}
use Rattle.std.proofs.Common.{refl, sym, ap, ◌∙◌, subst, arith, append_assoc, length, ◌⊎◌, inl, inr, MatchOption, append-nil, length-append}
use Rattle.std.specs.List.{All, AllByRecursion, filter}
use Rattle.std.specs.Option.{option_or}
use Rattle.std.proofs.lemmas.Bool.{and_parts}
use Rattle.std.proofs.lemmas.Bool.Decides.{nat_tests}
use Rattle.std.proofs.lemmas.List.Concat.{flat_map-append}
use Rattle.std.proofs.lemmas.List.Elements.{All-nil, All-push, All-weaker, filter-append}
use Rattle.std.proofs.lemmas.List.Quantifiers.{all_pairs_push}
use Rattle.std.proofs.lemmas.Option.{same_Some}
use Rattle.lnt_machine.specs.declared.row.Row.{Row}
use Rattle.lnt_machine.specs.declared.row.Sequence.{Sequence}
use Rattle.lnt_machine.specs.Cuts.{AreOpen, IsEnded}
use Rattle.lnt_machine.specs.Matrix.{joined_rows, sequences_of}
use Rattle.lnt_spans.specs.declared.position.Position.{Position}
use Rattle.lnt_spans.specs.Positions.{IsAtMost, IsBelow, is_below}
use Rattle.lnt_spans.proofs.EachTwoLaws.{pairs_tail}
use Rattle.lnt_spans.proofs.PositionLaws.{at_most_from_not_below, at_most_itself, at_most_trans, below_from_test, not_both, test_below}
use Rattle.lnt_sequences.specs.declared.watch.MissingFile.{MissingFile}
use Rattle.lnt_sequences.specs.declared.watch.Watch.{Watch}
use Rattle.lnt_sequences.specs.Evidence.{IsFall, IsFirstFall, IsFirstMissingFile, IsMissingFile, rows_of, StandsIn}
use Rattle.lnt_sequences.specs.Laws.{FallIsNotOrdered, MissingFileIsNotThere}
use Rattle.lnt_sequences.specs.Rules.{AreOrdered, FilesExist, HaveFiles, IsOrdered}
use Rattle.lnt_sequences.specs.Sequences.{is_live, last_row, live_of, Placed, placed_rows, position_of}
use Rattle.lnt_sequences.specs.Watching.{closed, current_of, fall_shown, falls_after, file_shown, first_shown}
use Rattle.lnt_sequences.specs.Watching.{HasSeenAll, is_in_live, last_after, names_no_file, next, start, RowsSoFar, walked}
use Rattle.lnt_sequences.proofs.WalkLaws.{each_ended, first_shown-append, last_row_is, placed_from, walked-append}
use Rattle.lnt_sequences.proofs.WalkLaws.{walked_ended, walked_open, walked-rows}
use Rattle.std.proofs.lemmas.Grind.{common_steps}

-- ---- lists cut at an element

record Cut {X : Type 0} (xs : List X) (prefix : List X) (x : X) : Type 0 where
  back : List X
  parts : xs ≡ prefix ++ x ∷ back

record Past {X : Type 0} (xs ys prefix : List X) (x : X) (back : List X) : Type 0 where
  rest : List X
  prefix_is : prefix ≡ xs ++ rest
  parts : ys ≡ rest ++ x ∷ back

-- an element of two lists stands in the first of them, or in the second
cut_at : {X : Type 0} (xs ys prefix : List X) (x : X) (back : List X) → xs ++ ys ≡ prefix ++ x ∷ back → Cut xs prefix x
    ⊎ Past xs ys prefix x back
cut_at [] ys prefix x back e = inr (record { rest = prefix; prefix_is = refl; parts = e })
cut_at {X} (y ∷ xs) ys [] x back e = let first : y ≡ x = cc in inl (record { back = xs; parts = ap (λ (z : X). z ∷ xs) first })
cut_at {X} (y ∷ xs) ys (z ∷ prefix) x back e =
    let first : y ≡ z = cc in
    let others : xs ++ ys ≡ prefix ++ x ∷ back = cc in
    elim (cut_at xs ys prefix x back others) [
      | inl c ↦ inl (record { back = c.back; parts = ap (λ (w : X). w ∷ xs) first ∙ ap (λ (ws : List X). z ∷ ws) c.parts })
      | inr b ↦ inr (record {
        rest = b.rest;
        prefix_is = ap (λ (ws : List X). z ∷ ws) b.prefix_is
            ∙ ap (λ (w : X). w ∷ xs ++ b.rest) (sym first);
        parts = b.parts;
      })
    ]

-- an element that stands before another
cut_before : {X : Type 0} (prefix later : List X) (x : X) (back : List X) (y : X) (more : List X)
    → prefix ++ x ∷ back ≡ later ++ y ∷ more → length prefix < length later → Cut later prefix x
cut_before prefix [] x back y more e lt = absurd (omega arith)
cut_before {X} [] (z ∷ later) x back y more e lt =
    let first : z ≡ x = cc in record { back = later; parts = ap (λ (w : X). w ∷ later) first }
cut_before {X} (w ∷ prefix) (z ∷ later) x back y more e lt =
    let first : z ≡ w = cc in
    let others : prefix ++ x ∷ back ≡ later ++ y ∷ more = cc in
    let c = cut_before prefix later x back y more others (omega arith) in
    record { back = c.back; parts = ap (λ (v : X). v ∷ later) first ∙ ap (λ (vs : List X). w ∷ vs) c.parts }

all_prefix : {X : Type 0} (P : X → Type 0) (xs ys : List X) → AllByRecursion P (xs ++ ys) → AllByRecursion P xs
all_prefix P [] ys h = tt
all_prefix P (x ∷ xs) ys h = (h.0, all_prefix P xs ys h.1)

all_back : {X : Type 0} (P : X → Type 0) (xs ys : List X) → AllByRecursion P (xs ++ ys) → AllByRecursion P ys
all_back P [] ys h = h
all_back P (x ∷ xs) ys h = all_back P xs ys h.1

-- ---- the first that shows something

record Found {A : Type 0} (show : RowsSoFar → Row → Option A) (walk : RowsSoFar) (rows : List Row) (shows : A) : Type 0 where
  prefix : List Row
  row : Row
  cut : Cut rows prefix row
  here : show (walked walk prefix) row ≡ Some shows
  none_before : first_shown show walk prefix ≡ None

found : {A : Type 0} (show : RowsSoFar → Row → Option A) (walk : RowsSoFar) (rows : List Row) (shows : A)
    → first_shown show walk rows ≡ Some shows → Found show walk rows shows
found show walk [] shows e = absurd cc
found {A} show walk (row ∷ rows) shows e = by_show (show walk row) refl e (λ f. found show (next walk row) rows shows f)
  where
    by_show : (o : Option A) → show walk row ≡ o → option_or o (first_shown show (next walk row) rows) ≡ Some shows
        → (first_shown show (next walk row) rows ≡ Some shows → Found show (next walk row) rows shows) → Found show walk (row ∷ rows) shows
    by_show (Some first) is e more = record {
      prefix = [];
      row = row;
      cut = record { back = rows; parts = refl };
      here = is ∙ e;
      none_before = refl;
    }
    by_show None is e more =
        let f = more e in
        record {
          prefix = row ∷ f.prefix;
          row = f.row;
          cut = record { back = f.cut.back; parts = ap (λ (xs : List Row). row ∷ xs) f.cut.parts };
          here = f.here;
          none_before = ap (λ (o : Option A). option_or o (first_shown show (next walk row) f.prefix)) is ∙ f.none_before;
        }

-- where none does, this one doesn't
not_shown : {A : Type 0} (show : RowsSoFar → Row → Option A) (walk : RowsSoFar) (rows prefix : List Row) (row : Row) → Cut rows prefix row
    → first_shown show walk rows ≡ None → show (walked walk prefix) row ≡ None
not_shown {A} show walk rows prefix row cut e = grind (arith, common_steps, first_shown-append)

-- ---- the sequence that a row stands in

-- each of the sequences ends at its last row, and nowhere before
abbrev AreEnded : List Placed → Type 0
AreEnded placed = AllByRecursion (λ (p : Placed). IsEnded (record { rows = p.rows })) placed

placed_ended : (unit index : ℕ) (ss : List Sequence) → AllByRecursion IsEnded ss → AreEnded (placed_from unit index ss)
placed_ended unit index [] h = tt
placed_ended unit index (s ∷ ss) h = (h.0, placed_ended unit (index + 1) ss h.1)

joined_of : (unit index : ℕ) (ss : List Sequence) → rows_of (placed_from unit index ss) ≡ joined_rows ss
joined_of unit index [] = refl
joined_of unit index (s ∷ ss) = ap (λ (more : List Row). s.rows ++ more) (joined_of unit (index + 1) ss)

-- the rows before one of a sequence don't end it
open_before : (s : Sequence) (before : List Row) (row : Row) → IsEnded s → Cut s.rows before row → AreOpen before
open_before s before row e cut =
    elim (cut_at e.body (e.last ∷ []) before row cut.back (sym e.rows_are ∙ cut.parts)) [
      | inl c ↦ all_prefix (λ (r : Row). r.end_sequence ≡ false) before (row ∷ c.back) (subst AreOpen c.parts e.body_open)
      | inr b ↦ subst AreOpen (sym (b.prefix_is ∙ ap (λ (rest : List Row). e.body ++ rest) (none b.rest b.parts) ∙ append-nil e.body))
          e.body_open
    ]
  where
    none : (rest : List Row) → e.last ∷ [] ≡ rest ++ row ∷ cut.back → rest ≡ []
    none [] h = refl
    none (x ∷ rest) h = absurd (omega (arith, ap length h, length-append rest (row ∷ cut.back)))

begun_open : (walk : RowsSoFar) (before : List Row) → walk.begun ≡ [] → AreOpen before → (walked walk before).begun ≡ before
begun_open walk before none o = ap (λ (w : RowsSoFar). w.begun) (walked_open walk before o) ∙ ap (λ (rows : List Row). rows ++ before) none

begun_ended : (walk : RowsSoFar) (s : Sequence) → IsEnded s → (walked walk s.rows).begun ≡ []
begun_ended walk s e = ap (λ (w : RowsSoFar). w.begun) (walked_ended walk s e)

begun_all : (walk : RowsSoFar) (placed : List Placed) → AreEnded placed → walk.begun ≡ [] → (walked walk (rows_of placed)).begun ≡ []
begun_all walk [] h none = none
begun_all walk (p ∷ placed) h none = ap (λ (w : RowsSoFar). w.begun) (walked-append walk p.rows (rows_of placed))
    ∙ begun_all (walked walk p.rows) placed h.1 (begun_ended walk (record { rows = p.rows }) h.0)

-- every row stands in a sequence, after those that have begun it
record Stands (placed : List Placed) (before : List Row) (row : Row) (index : ℕ) : Type 0 where
  sequence : Placed
  stands : StandsIn placed sequence before row index

stands : (placed : List Placed) → AreEnded placed → (walk : RowsSoFar) → walk.begun ≡ [] → (prefix : List Row) (row : Row)
    → Cut (rows_of placed) prefix row → Stands placed (walked walk prefix).begun row (length prefix)
stands [] ended walk none prefix row cut = absurd (omega (arith, ap length cut.parts, length-append prefix (row ∷ cut.back)))
stands (p ∷ placed) ended walk none prefix row cut =
    elim (cut_at p.rows (rows_of placed) prefix row cut.back cut.parts) [
      | inl c ↦
          let e = begun_open walk prefix none (open_before (record { rows = p.rows }) prefix row ended.0 c) in
          record {
            sequence = p;
            stands = record {
              earlier = [];
              later = placed;
              after = c.back;
              sequences_are = refl;
              rows_are = c.parts ∙ ap (λ (rows : List Row). rows ++ row ∷ c.back) (sym e);
              index_is = ap length (sym e);
            };
          }
      | inr b ↦
          let past = walked walk p.rows in
          let s = stands placed ended.1 past (begun_ended walk (record { rows = p.rows }) ended.0) b.rest row
          (record { back = cut.back; parts = b.parts }) in
          let same : (walked past b.rest).begun ≡ (walked walk prefix).begun =
          ap (λ (w : RowsSoFar). w.begun) (sym (walked-append walk p.rows b.rest))
          ∙ ap (λ (rows : List Row). (walked walk rows).begun) (sym b.prefix_is) in
          record {
            sequence = s.sequence;
            stands = record {
              earlier = p ∷ s.stands.earlier;
              later = s.stands.later;
              after = s.stands.after;
              sequences_are = ap (λ (ps : List Placed). p ∷ ps) s.stands.sequences_are;
              rows_are = s.stands.rows_are ∙ ap (λ (rows : List Row). rows ++ row ∷ s.stands.after) same;
              index_is = ap length b.prefix_is ∙ length-append p.rows b.rest ∙ ap (λ (n : ℕ). length p.rows + n) s.stands.index_is
                  ∙ sym (length-append p.rows (rows_of s.stands.earlier ++ (walked past b.rest).begun))
                  ∙ ap length (sym (append_assoc p.rows (rows_of s.stands.earlier) (walked past b.rest).begun))
                  ∙ ap (λ (rows : List Row). length ((p.rows ++ rows_of s.stands.earlier) ++ rows)) same;
            };
          }
    ]

-- and the other way round
record CutAt (rows : List Row) (walk : RowsSoFar) (before : List Row) (row : Row) (index : ℕ) : Type 0 where
  prefix : List Row
  cut : Cut rows prefix row
  begun : (walked walk prefix).begun ≡ before
  index_is : index ≡ length prefix

cut_of : (placed : List Placed) → AreEnded placed → (walk : RowsSoFar) → walk.begun ≡ []
    → (p : Placed) (before : List Row) (row : Row) (index : ℕ)
    → StandsIn placed p before row index → CutAt (rows_of placed) walk before row index
cut_of placed ended walk none p before row index s =
    let all : AreEnded (s.earlier ++ p ∷ s.later) = subst AreEnded s.sequences_are ended in
    let prefix = all_prefix (λ (q : Placed). IsEnded (record { rows = q.rows })) s.earlier (p ∷ s.later) all in
    let here = (all_back (λ (q : Placed). IsEnded (record { rows = q.rows })) s.earlier (p ∷ s.later) all).0 in
    record {
      prefix = rows_of s.earlier ++ before;
      cut = record {
        back = s.after ++ rows_of s.later;
        parts = ap rows_of s.sequences_are ∙ flat_map-append (λ (q : Placed). q.rows) s.earlier (p ∷ s.later)
            ∙ ap (λ (rows : List Row). rows_of s.earlier ++ (rows ++ rows_of s.later)) s.rows_are
            ∙ ap (λ (rows : List Row). rows_of s.earlier ++ rows) (append_assoc before (row ∷ s.after) (rows_of s.later))
            ∙ sym (append_assoc (rows_of s.earlier) before (row ∷ s.after ++ rows_of s.later));
      };
      begun = ap (λ (w : RowsSoFar). w.begun) (walked-append walk (rows_of s.earlier) before)
          ∙ begun_open (walked walk (rows_of s.earlier)) before (begun_all walk s.earlier prefix none)
          (open_before (record { rows = p.rows }) before row here (record { back = s.after; parts = s.rows_are }));
      index_is = s.index_is;
    }

-- ---- the rows of a unit

-- the sequences that they make, where none of them is after the last end row
pub record Whole (ss : List Placed) (all : List Row) : Type 0 where
  pub ended : AreEnded ss
  pub rows_are : rows_of ss ≡ all

whole : (unit : ℕ) (all : List Row) → joined_rows (sequences_of all) ≡ all → Whole (placed_rows unit all) all
whole unit all closed = grind (arith, common_steps, placed_ended, each_ended, joined_of)

-- the first row of the unit that shows something, by its sequence
record FoundIn {A : Type 0} (ss : List Placed) (all : List Row) (show : RowsSoFar → Row → Option A) (shows : A) : Type 0 where
  walk : RowsSoFar
  row : Row
  sequence : Placed
  stands : StandsIn ss sequence walk.begun row walk.rows
  here : show walk row ≡ Some shows
  first : (p : Placed) (before : List Row) (other : Row) (index : ℕ) → StandsIn ss p before other index → index < walk.rows
      → (earlier : RowsSoFar) × (earlier.begun ≡ before) × (show earlier other ≡ None)

found_in : {A : Type 0} (ss : List Placed) (all : List Row) (show : RowsSoFar → Row → Option A) (shows : A) → Whole ss all
    → first_shown show start all ≡ Some shows → FoundIn ss all show shows
found_in ss all show shows w e =
    let f = found show start all shows e in
    let cut : Cut (rows_of ss) f.prefix f.row = record { back = f.cut.back; parts = w.rows_are ∙ f.cut.parts } in
    let s = stands ss w.ended start refl f.prefix f.row cut in
    let count : (walked start f.prefix).rows ≡ length f.prefix = omega (arith, walked-rows start f.prefix) in
    record {
      walk = walked start f.prefix;
      row = f.row;
      sequence = s.sequence;
      stands = subst (StandsIn ss s.sequence (walked start f.prefix).begun f.row) (sym count) s.stands;
      here = f.here;
      first = λ p before other index at lt.
          let c = cut_of ss w.ended start refl p before other index at in
          let index_is = c.index_is in
          let there = cut_before c.prefix f.prefix other c.cut.back f.row f.cut.back (sym c.cut.parts ∙ cut.parts) (omega arith) in
          (walked start c.prefix, c.begun, not_shown show start f.prefix c.prefix other there f.none_before);
    }

-- where none shows anything, no row of a sequence does
none_in : {A : Type 0} (ss : List Placed) (all : List Row) (show : RowsSoFar → Row → Option A) → Whole ss all
    → first_shown show start all ≡ None → (p : Placed) (before : List Row) (row : Row) (index : ℕ) → StandsIn ss p before row index
    → (walk : RowsSoFar) × (walk.begun ≡ before) × (show walk row ≡ None)
none_in ss all show w e p before row index at =
    let c = cut_of ss w.ended start refl p before row index at in (
      walked start c.prefix,
      c.begun,
      not_shown show start all c.prefix row
          (record { back = c.cut.back; parts = sym w.rows_are ∙ c.cut.parts }) e,
    )

-- what holds of each live sequence of the unit, row by row
live_each : (P : Placed → Type 0) (dead : Option ℕ) (ss : List Placed)
    → ((p : Placed) → is_live dead p ≡ true → ((before : List Row) (row : Row) (after : List Row) → p.rows ≡ before ++ row ∷ after
    → (index : ℕ) × StandsIn ss p before row index) → P p) → AllByRecursion P (live_of dead ss)
live_each P dead ss step = along [] ss refl
  where
    along : (earlier later : List Placed) → ss ≡ earlier ++ later → AllByRecursion P (filter (is_live dead) later)
    along earlier [] e = tt
    along earlier (p ∷ later) e = by_live (is_live dead p) refl
        (along (earlier ++ p ∷ []) later (e ∙ sym (append_assoc earlier (p ∷ []) later)))
      where
        by_live : (t : Bool) → is_live dead p ≡ t → AllByRecursion P (filter (is_live dead) later)
            → AllByRecursion P (cond t (p ∷ filter (is_live dead) later) (filter (is_live dead) later))
        by_live true live rest = (
          step p live (λ before row after rows_are. (
            length (rows_of earlier ++ before),
            record { earlier = earlier; later = later; after = after; sequences_are = e; rows_are = rows_are; index_is = refl },
          )),
          rest,
        )
        by_live false live rest = rest

-- ---- what a row of a sequence shows

-- its sequence is live as the watch takes it
live_is : (dead : Option ℕ) (walk : RowsSoFar) (row : Row) (p : Placed) (after : List Row) → p.rows ≡ walk.begun ++ row ∷ after
    → is_in_live dead walk row ≡ is_live dead p
live_is dead walk row p after e = grind (arith, common_steps)

-- it falls
record FallsFrom (begun : List Row) (row : Row) : Type 0 where
  previous : Row
  previous_is : last_row begun ≡ Some previous
  falls : IsBelow (position_of row) (position_of previous)

falls_from : (dead : Option ℕ) (begun : List Row) (row : Row) → falls_after (current_of dead begun) row ≡ true → FallsFrom begun row
falls_from dead [] row e = absurd cc
falls_from dead (first ∷ rest) row e = record {
  previous = last_after first rest;
  previous_is = last_row_is first rest;
  falls = below_from_test (position_of row) (position_of (last_after first rest)) e;
}

falls_test : (dead : Option ℕ) (begun : List Row) (row previous : Row) → last_row begun ≡ Some previous
    → IsBelow (position_of row) (position_of previous) → falls_after (current_of dead begun) row ≡ true
falls_test dead begun row previous e h = grind (arith, common_steps, same_Some, last_row_is, test_below)

shows : {A : Type 0} (t : Bool) (a b : A) → cond t (Some a) None ≡ Some b → (t ≡ true) × (a ≡ b)
shows true a b e = (refl, same_Some a b e)
shows false a b e = absurd cc

shows_not : {A : Type 0} (t : Bool) (a : A) → cond t (Some a) None ≡ None → t ≡ true → ⊥
shows_not true a e f = cc
shows_not false a e f = cc

-- ---- the first fall

fall_shows : (dead : Option ℕ) (ss : List Placed) (walk : RowsSoFar) (index : ℕ) (f : IsFall dead ss index) → walk.begun ≡ f.before
    → fall_shown dead walk f.row ≡ None → ⊥
fall_shows dead ss walk index f e none = grind (arith, common_steps, live_is, falls_test, shows_not)

first_fall : (dead : Option ℕ) (ss : List Placed) (all : List Row) (index : ℕ) → Whole ss all
    → first_shown (fall_shown dead) start all ≡ Some index → IsFirstFall dead ss index
first_fall dead ss all index w e =
    let f = found_in ss all (fall_shown dead) index w e in
    let s = shows (is_in_live dead f.walk f.row && falls_after (current_of dead f.walk.begun) f.row) f.walk.rows index f.here in
    let b = and_parts (is_in_live dead f.walk f.row) (falls_after (current_of dead f.walk.begun) f.row) s.0 in
    let falls = falls_from dead f.walk.begun f.row b.1 in
    record {
      fall = record {
        placed = f.sequence;
        before = f.walk.begun;
        previous = falls.previous;
        row = f.row;
        stands = subst (StandsIn ss f.sequence f.walk.begun f.row) s.1 f.stands;
        live = sym (live_is dead f.walk f.row f.sequence f.stands.after f.stands.rows_are) ∙ b.0;
        previous_is = falls.previous_is;
        falls = falls.falls;
      };
      first = λ earlier lt fall.
          let same = s.1 in
          let none = f.first fall.placed fall.before fall.row earlier fall.stands (omega arith) in
          fall_shows dead ss none.0 earlier fall none.1 none.2;
    }

-- rows that none falls of are ordered

abbrev AllUpTo : Position → List Row → Type 0
AllUpTo last rows = All (λ (r : Row). IsAtMost (position_of r) last) rows

abbrev NoneFalls : List Row → Type 0
NoneFalls rows =
    (before : List Row) (row : Row) (after : List Row) → rows ≡ before ++ row ∷ after → (previous : Row) → last_row before ≡ Some previous
    → IsAtMost (position_of previous) (position_of row)

pub last_row-push : (rows : List Row) (more : Row) → last_row (rows ++ more ∷ []) ≡ Some more
last_row-push [] more = refl
last_row-push (row ∷ rows) more = last_row_is row (rows ++ more ∷ []) ∙ ap Some (pushed row rows)
  where
    pushed : (row : Row) (rows : List Row) → last_after row (rows ++ more ∷ []) ≡ more
    pushed row [] = refl
    pushed row (next ∷ rows) = pushed next rows

ordered_along : (whole : List Row) → NoneFalls whole → (prefix : List Row) (last : Row) (back : List Row)
    → whole ≡ (prefix ++ last ∷ []) ++ back
    → IsOrdered (prefix ++ last ∷ []) → AllUpTo (position_of last) (prefix ++ last ∷ []) → IsOrdered whole
ordered_along whole none prefix last [] e o h = subst IsOrdered (sym (e ∙ append-nil (prefix ++ last ∷ []))) o
ordered_along whole none prefix last (row ∷ back) e o h =
    let before = prefix ++ last ∷ [] in
    let step : IsAtMost (position_of last) (position_of row) = none before row back e last (last_row-push prefix last) in
    let up : AllUpTo (position_of row) before =
    All-weaker (λ (r : Row). IsAtMost (position_of r) (position_of last)) (λ (r : Row). IsAtMost (position_of r) (position_of row))
    (λ r m. at_most_trans m step) before h in
    ordered_along whole none before row back (e ∙ sym (append_assoc before (row ∷ []) back))
    (all_pairs_push (λ (a : Row) (b : Row). IsAtMost (position_of a) (position_of b)) before row o up)
    (All-push (λ (r : Row). IsAtMost (position_of r) (position_of row)) before row up (at_most_itself (position_of row)))

ordered_rows : (rows : List Row) → NoneFalls rows → IsOrdered rows
ordered_rows [] none = λ i j d lt l. absurd (omega arith)
ordered_rows (row ∷ rows) none = ordered_along (row ∷ rows) none [] row rows refl (λ i j d lt l. absurd (omega arith))
    (All-push (λ (r : Row). IsAtMost (position_of r) (position_of row)) [] row
    (All-nil (λ (r : Row). IsAtMost (position_of r) (position_of row))) (at_most_itself (position_of row)))

none_falls : (dead : Option ℕ) (ss : List Placed) (all : List Row) → Whole ss all → first_shown (fall_shown dead) start all ≡ None
    → AreOrdered (live_of dead ss)
none_falls dead ss all w e = live_each (λ (p : Placed). IsOrdered p.rows) dead ss (λ p live at. ordered_rows p.rows
    (λ before row after rows_are previous last. step p live before row after rows_are previous last (at before row after rows_are)))
  where
    step : (p : Placed) → is_live dead p ≡ true → (before : List Row) (row : Row) (after : List Row) → p.rows ≡ before ++ row ∷ after
        → (previous : Row) → last_row before ≡ Some previous
        → (index : ℕ) × StandsIn ss p before row index → IsAtMost (position_of previous) (position_of row)
    step p live before row after rows_are previous last at = by_test (is_below (position_of row) (position_of previous)) refl
      where
        by_test : (t : Bool) → is_below (position_of row) (position_of previous) ≡ t → IsAtMost (position_of previous) (position_of row)
        by_test false t = at_most_from_not_below (position_of row) (position_of previous) t
        by_test true t =
            let none = none_in ss all (fall_shown dead) w e p before row at.0 at.1 in
            absurd (fall_shows dead ss none.0 at.0
            (record {
              placed = p;
              before = before;
              previous = previous;
              row = row;
              stands = at.1;
              live = live;
              previous_is = last;
              falls = below_from_test (position_of row) (position_of previous) t;
            }) none.1 none.2)

pub falls_judged : (dead : Option ℕ) (unit files : ℕ) (watch : Watch) (all : List Row) → HasSeenAll dead unit files watch all
    → MatchOption watch.falls (AreOrdered (live_of dead (placed_rows unit all))) (IsFirstFall dead (placed_rows unit all))
falls_judged dead unit files watch all seen = grind (arith, common_steps, none_falls, whole, first_fall)

-- ---- the first missing file

names_parts : (files : ℕ) (row : Row) (t : Bool) → row.end_sequence ≡ t → (not t && nat_le files row.file) ≡ true → (t ≡ false)
    × (files ≤ row.file)
names_parts files row false is e = (refl, grind (arith, nat_tests))
names_parts files row true is e = absurd cc

names_test : (files : ℕ) (row : Row) (t : Bool) → t ≡ false → files ≤ row.file → (not t && nat_le files row.file) ≡ true
names_test files row false e h = grind (arith, nat_tests)
names_test files row true e h = absurd cc

file_shows : (dead : Option ℕ) (files : ℕ) (ss : List Placed) (walk : RowsSoFar) (missing : MissingFile)
    (f : IsMissingFile dead files ss missing) → walk.begun ≡ f.before → file_shown dead (files) walk f.row ≡ None → ⊥
file_shows dead files ss walk missing f e none = grind (arith, common_steps, live_is, names_test, shows_not)

first_file : (dead : Option ℕ) (files : ℕ) (ss : List Placed) (all : List Row) (missing : MissingFile) → Whole ss all
    → first_shown (file_shown dead files) start all ≡ Some missing → IsFirstMissingFile dead files ss missing
first_file dead files ss all missing w e =
    let f = found_in ss all (file_shown dead files) missing w e in
    let s = shows (is_in_live dead f.walk f.row && names_no_file files f.row) (record { row = f.walk.rows; file = f.row.file }) missing
    f.here in
    let row_is : f.walk.rows ≡ missing.row = ap (λ (m : MissingFile). m.row) s.1 in
    let file_is : f.row.file ≡ missing.file = ap (λ (m : MissingFile). m.file) s.1 in
    let b = and_parts (is_in_live dead f.walk f.row) (names_no_file files f.row) s.0 in
    let names = names_parts files f.row f.row.end_sequence refl b.1 in
    let outside = names.1 in
    record {
      file = record {
        placed = f.sequence;
        before = f.walk.begun;
        row = f.row;
        stands = subst (StandsIn ss f.sequence f.walk.begun f.row) row_is f.stands;
        live = sym (live_is dead f.walk f.row f.sequence f.stands.after f.stands.rows_are) ∙ b.0;
        no_end = names.0;
        file_is = sym file_is;
        outside = omega arith;
      };
      first = λ earlier lt file.
          let none = f.first file.placed file.before file.row earlier.row file.stands (omega arith) in
          file_shows dead files ss none.0 earlier file none.1 none.2;
    }

each_row : (P : Row → Type 0) (rows : List Row)
    → ((before : List Row) (row : Row) (after : List Row) → rows ≡ before ++ row ∷ after → P row) → AllByRecursion P rows
each_row P [] h = tt
each_row P (row ∷ rows) h =
    (h [] row rows refl, each_row P rows (λ before other after e. h (row ∷ before) other after (ap (λ (all : List Row). row ∷ all) e)))

all_files : (dead : Option ℕ) (files : ℕ) (ss : List Placed) (all : List Row) → Whole ss all
    → first_shown (file_shown dead files) start all ≡ None → HaveFiles files (live_of dead ss)
all_files dead files ss all w e = live_each (λ (p : Placed). FilesExist files p.rows) dead ss
    (λ p live at. each_row (λ (row : Row). row.end_sequence ≡ false → row.file < files) p.rows
    (λ before row after rows_are no_end. step p live before row no_end (at before row after rows_are)))
  where
    step : (p : Placed) → is_live dead p ≡ true → (before : List Row) (row : Row) → row.end_sequence ≡ false → (index : ℕ)
        × StandsIn ss p before row index → row.file < files
    step p live before row no_end at = by_test (nat_le files row.file) refl
      where
        by_test : (t : Bool) → nat_le files row.file ≡ t → row.file < files
        by_test false t = grind (arith, nat_tests)
        by_test true t =
            let none = none_in ss all (file_shown dead files) w e p before row at.0 at.1 in
            let outside : files ≤ row.file = grind (arith, nat_tests) in
            absurd (file_shows dead files ss none.0 (record { row = at.0; file = row.file })
            (record {
              placed = p;
              before = before;
              row = row;
              stands = at.1;
              live = live;
              no_end = no_end;
              file_is = refl;
              outside = omega arith;
            }) none.1 none.2)

pub files_judged : (dead : Option ℕ) (unit files : ℕ) (watch : Watch) (all : List Row) → HasSeenAll dead unit files watch all
    → MatchOption watch.missing_file (HaveFiles files (live_of dead (placed_rows unit all)))
    (IsFirstMissingFile dead files (placed_rows unit all))
files_judged dead unit files watch all seen = grind (arith, common_steps, all_files, whole, first_file)

-- ---- what is told is against the rules

-- what holds of the live sequences of a unit, holds of each
live_one : (P : Placed → Type 0) (dead : Option ℕ) (earlier later : List Placed) (p : Placed) → is_live dead p ≡ true
    → AllByRecursion P (filter (is_live dead) (earlier ++ p ∷ later)) → P p
live_one P dead earlier later p live all = grind (arith, common_steps, all_back, filter-append, cond)

in_turn : (before : List Row) (row : Row) (after : List Row) (previous : Row) → last_row before ≡ Some previous
    → IsOrdered (before ++ row ∷ after) → IsAtMost (position_of previous) (position_of row)
in_turn [] row after previous e o = absurd cc
in_turn (x ∷ []) row after previous e o =
    subst (λ (r : Row). IsAtMost (position_of r) (position_of row)) (same_Some x previous e) (o 0 1 x (omega arith) (omega arith))
in_turn (x ∷ y ∷ before) row after previous e o = in_turn (y ∷ before) row after previous e
    (pairs_tail (λ (a : Row) (b : Row). IsAtMost (position_of a) (position_of b)) x (y ∷ before ++ row ∷ after) o)

pub fall_is_not_ordered : FallIsNotOrdered
fall_is_not_ordered dead ss index fall ordered =
    let s = fall.stands in
    let all : AllByRecursion (λ (p : Placed). IsOrdered p.rows) (filter (is_live dead) (s.earlier ++ fall.placed ∷ s.later)) =
    subst (λ (ps : List Placed). AllByRecursion (λ (p : Placed). IsOrdered p.rows) (filter (is_live dead) ps)) s.sequences_are ordered in
    let here : IsOrdered fall.placed.rows = live_one (λ (p : Placed). IsOrdered p.rows) dead s.earlier s.later fall.placed fall.live all in
    not_both fall.falls (in_turn fall.before fall.row s.after fall.previous fall.previous_is (subst IsOrdered s.rows_are here))

pub each_at : (P : Row → Type 0) (before : List Row) (row : Row) (after : List Row) → AllByRecursion P (before ++ row ∷ after) → P row
each_at P before row after h = (all_back P before (row ∷ after) h).0

pub missing_file_is_not_there : MissingFileIsNotThere
missing_file_is_not_there dead files ss missing file have =
    let s = file.stands in
    let all : AllByRecursion (λ (p : Placed). FilesExist files p.rows) (filter (is_live dead) (s.earlier ++ file.placed ∷ s.later)) =
    subst (λ (ps : List Placed). AllByRecursion (λ (p : Placed). FilesExist files p.rows) (filter (is_live dead) ps)) s.sequences_are
    have in
    let here : FilesExist files file.placed.rows = live_one (λ (p : Placed). FilesExist files p.rows) dead s.earlier s.later file.placed
    file.live all in
    let below : file.row.file < files = each_at (λ (row : Row). row.end_sequence ≡ false → row.file < files) file.before file.row s.after
    (subst (FilesExist files) s.rows_are here) file.no_end in
    let outside = file.outside in
    let same = file.file_is in
    omega arith
