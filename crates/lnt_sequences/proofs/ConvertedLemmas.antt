-- Sections whose units stand one for one, with the same rows, answer alike.
use Rattle.std.proofs.Common.{◌≡◌, ℕ, suc, ◌+◌, Bool, true, false, not, ◌||◌, cond, List, [], ◌∷◌, ◌++◌, map, Option, Some, None, refl, sym}
use Rattle.std.proofs.Common.{ap, ◌∙◌, subst, arith, append_assoc, option_and_then, option_map}
use Rattle.std.specs.List.{AllPairs, AllZip, filter, find, list_any}
use Rattle.lnt_wire.specs.declared.format.Format.{Format}
use Rattle.lnt_wire.specs.declared.format.Order.{Order}
use Rattle.lnt_header.specs.Conversion.{unit_in_format}
use Rattle.lnt_header.specs.declared.unit_parts.UnitParts.{UnitParts}
use Rattle.lnt_machine.specs.declared.row.Row.{Row}
use Rattle.lnt_machine.specs.declared.row.Sequence.{Sequence}
use Rattle.lnt_machine.specs.Laws.{SameMatrix}
use Rattle.lnt_machine.specs.Matrix.{sequences}
use Rattle.lnt_spans.specs.declared.position.Position.{Position}
use Rattle.lnt_sequences.specs.Laws.{AreAlike, ConvertedAnswers, StandAlike}
use Rattle.lnt_sequences.proofs.KeptLaws.{copy_by_look_back, IsBefore, rising_sequences}
use Rattle.lnt_sequences.proofs.UnitLaws.{offsets_rise}
use Rattle.lnt_sequences.proofs.WalkLaws.{placed_from}
use Rattle.lnt_sequences.specs.Sequences.{answer_of, hold_alike, holds, is_copy, kept_of, kept_sequences}
use Rattle.lnt_sequences.specs.Sequences.{live_in, live_sequences, Placed, placed_in, row_at}
use Rattle.std.proofs.lemmas.Grind.{common_steps}

-- ---- lists, element for element

zip_to : {X Y : Type 0} (R Q : X → Y → Type 0) → ((x : X) (y : Y) → R x y → Q x y) → (xs : List X) (ys : List Y) → AllZip R xs ys
    → AllZip Q xs ys
zip_to R Q to [] [] z = tt
zip_to R Q to (x ∷ xs) (y ∷ ys) z = (to x y z.0, zip_to R Q to xs ys z.1)
zip_to R Q to _ _ z = absurd z

zip_append : {X Y : Type 0} (R : X → Y → Type 0) (xs : List X) (ys : List Y) (us : List X) (vs : List Y) → AllZip R xs ys → AllZip R us vs
    → AllZip R (xs ++ us) (ys ++ vs)
zip_append R [] [] us vs z w = w
zip_append R (x ∷ xs) (y ∷ ys) us vs z w = (z.0, zip_append R xs ys us vs z.1 w)
zip_append R _ _ us vs z w = absurd z

zip_filter : {X Y : Type 0} (R : X → Y → Type 0) (test : X → Bool) (other : Y → Bool) → ((x : X) (y : Y) → R x y → test x ≡ other y)
    → (xs : List X) (ys : List Y) → AllZip R xs ys → AllZip R (filter test xs) (filter other ys)
zip_filter R test other same [] [] z = tt
zip_filter R test other same (x ∷ xs) (y ∷ ys) z = by_test (test x) (other y) (same x y z.0) (zip_filter R test other same xs ys z.1)
  where
    by_test : (s t : Bool) → s ≡ t → AllZip R (filter test xs) (filter other ys)
        → AllZip R (cond s (x ∷ filter test xs) (filter test xs)) (cond t (y ∷ filter other ys) (filter other ys))
    by_test true true e rest = (z.0, rest)
    by_test false false e rest = rest
    by_test _ _ e rest = absurd cc
zip_filter R test other same _ _ z = absurd z

-- what a test finds in both
abbrev FoundAlike : {X Y : Type 0} → (X → Y → Type 0) → Option X → Option Y → Type 0
FoundAlike R None None = Unit {0}
FoundAlike R (Some x) (Some y) = R x y
FoundAlike R _ _ = ⊥

zip_find : {X Y : Type 0} (R : X → Y → Type 0) (test : X → Bool) (other : Y → Bool) → ((x : X) (y : Y) → R x y → test x ≡ other y)
    → (xs : List X) (ys : List Y) → AllZip R xs ys → FoundAlike R (find test xs) (find other ys)
zip_find R test other same [] [] z = tt
zip_find R test other same (x ∷ xs) (y ∷ ys) z = by_test (test x) (other y) (same x y z.0) (zip_find R test other same xs ys z.1)
  where
    by_test : (s t : Bool) → s ≡ t → FoundAlike R (find test xs) (find other ys)
        → FoundAlike R (cond s (Some x) (find test xs)) (cond t (Some y) (find other ys))
    by_test true true e rest = z.0
    by_test false false e rest = rest
    by_test _ _ e rest = absurd cc
zip_find R test other same _ _ z = absurd z

-- ---- the sequences of two units with the same rows

-- the same rows, in the units at these offsets
record IsTwin (unit other : ℕ) (one two : Placed) : Type 0 where
  rows_are : one.rows ≡ two.rows
  unit_is : one.id.unit ≡ unit
  other_is : two.id.unit ≡ other

twins : (unit other index : ℕ) (ss : List Sequence) → AllZip (IsTwin unit other) (placed_from unit index ss) (placed_from other index ss)
twins unit other index [] = tt
twins unit other index (s ∷ ss) = (record { rows_are = refl; unit_is = refl; other_is = refl }, twins unit other (index + 1) ss)

unit_twins : (unit other : ℕ × UnitParts) → sequences other.1 ≡ sequences unit.1
    → AllZip (IsTwin unit.0 other.0) (placed_in unit) (placed_in other)
unit_twins unit other same = grind (arith, common_steps, placed_from, twins)

live_twins : (dead : Option ℕ) (unit other : ℕ × UnitParts) → sequences other.1 ≡ sequences unit.1
    → AllZip (IsTwin unit.0 other.0) (live_in dead unit) (live_in dead other)
live_twins dead unit other same = grind (arith, common_steps, zip_filter, unit_twins)

-- ---- the sequences of two sections

-- the same rows, in units that stand alike
record AreTwins (units others : List (ℕ × UnitParts)) (one two : Placed) : Type 0 where
  rows_are : one.rows ≡ two.rows
  stand : StandAlike units others one.id.unit two.id.unit

later_twins : (unit other : ℕ × UnitParts) (units others : List (ℕ × UnitParts)) (one two : Placed) → AreTwins units others one two
    → AreTwins (unit ∷ units) (other ∷ others) one two
later_twins unit other units others one two t =
    let s = t.stand in
    record {
      rows_are = t.rows_are;
      stand = record { place = suc s.place; within = omega (arith, s.within); unit_is = s.unit_is; other_is = s.other_is };
    }

here_twins : (unit other : ℕ × UnitParts) (units others : List (ℕ × UnitParts)) (one two : Placed) → IsTwin unit.0 other.0 one two
    → AreTwins (unit ∷ units) (other ∷ others) one two
here_twins unit other units others one two t = grind (arith, common_steps)

section_twins : SameMatrix → (dead : Option ℕ) (format : Format) (order : Order) (units others : List (ℕ × UnitParts))
    → map (λ unit. unit.1) others ≡ map (λ unit. unit_in_format unit.1 format order) units
    → AllZip (AreTwins units others) (live_sequences dead units) (live_sequences dead others)
section_twins law dead format order [] [] e = tt
section_twins law dead format order [] (other ∷ others) e = absurd cc
section_twins law dead format order (unit ∷ units) [] e = absurd cc
section_twins law dead format order (unit ∷ units) (other ∷ others) e =
    let heads : other.1 ≡ unit_in_format unit.1 format order = cc in
    let tails : map (λ (u : ℕ × UnitParts). u.1) others ≡ map (λ (u : ℕ × UnitParts). unit_in_format u.1 format order) units = cc in
    let same : sequences other.1 ≡ sequences unit.1 = ap sequences heads ∙ law.same_sequences unit.1 format order in
    zip_append (AreTwins (unit ∷ units) (other ∷ others)) (live_in dead unit) (live_in dead other) (live_sequences dead units)
    (live_sequences dead others)
    (zip_to (IsTwin unit.0 other.0) (AreTwins (unit ∷ units) (other ∷ others)) (here_twins unit other units others) (live_in dead unit)
    (live_in dead other) (live_twins dead unit other same))
    (zip_to (AreTwins units others) (AreTwins (unit ∷ units) (other ∷ others)) (later_twins unit other units others)
    (live_sequences dead units) (live_sequences dead others) (section_twins law dead format order units others tails))

-- ---- those that are kept

abbrev SameRows : Placed → Placed → Type 0
SameRows one two = one.rows ≡ two.rows

any_alike : (rows others : List Row) (seen found : List Placed) → rows ≡ others → AllZip SameRows seen found
    → list_any (λ (e : Placed). hold_alike rows e.rows) seen ≡ list_any (λ (e : Placed). hold_alike others e.rows) found
any_alike rows others [] [] same z = refl
any_alike rows others (s ∷ seen) (t ∷ found) same z =
    ap (λ (list : List Row). hold_alike list s.rows || list_any (λ (e : Placed). hold_alike rows e.rows) seen) same
    ∙ ap (λ (list : List Row). hold_alike others list || list_any (λ (e : Placed). hold_alike rows e.rows) seen) z.0
    ∙ ap (λ (b : Bool). hold_alike others t.rows || b) (any_alike rows others seen found same z.1)
any_alike rows others _ _ same z = absurd z

-- lists with the same rows, element for element, each in the order of its section: those after the ones seen
kept_twins : (R : Placed → Placed → Type 0) → ((s t : Placed) → R s t → SameRows s t) → (all others seen found ss ts : List Placed)
    → all ≡ seen ++ ss → others ≡ found ++ ts
    → AllPairs IsBefore all → AllPairs IsBefore others → AllZip SameRows seen found → AllZip R ss ts
    → AllZip R (filter (λ (s : Placed). not (is_copy all s)) ss) (filter (λ (t : Placed). not (is_copy others t)) ts)
kept_twins R rows all others seen found [] [] are are' order order' before z = tt
kept_twins R rows all others seen found (s ∷ ss) (t ∷ ts) are are' order order' before z =
    let left : is_copy all s ≡ list_any (λ (e : Placed). hold_alike s.rows e.rows) seen =
    ap (λ (list : List Placed). is_copy list s) are ∙ copy_by_look_back seen s ss (subst (AllPairs IsBefore) are order) in
    let right : is_copy others t ≡ list_any (λ (e : Placed). hold_alike t.rows e.rows) found =
    ap (λ (list : List Placed). is_copy list t) are' ∙ copy_by_look_back found t ts (subst (AllPairs IsBefore) are' order') in
    let same : is_copy all s ≡ is_copy others t = left ∙ any_alike s.rows t.rows seen found (rows s t z.0) before ∙ sym right in
    by_test (not (is_copy all s)) (not (is_copy others t)) (ap not same)
    (kept_twins R rows all others (seen ++ s ∷ []) (found ++ t ∷ []) ss ts (are ∙ sym (append_assoc seen (s ∷ []) ss))
    (are' ∙ sym (append_assoc found (t ∷ []) ts)) order order'
    (zip_append SameRows seen found (s ∷ []) (t ∷ []) before (rows s t z.0, tt)) z.1)
  where
    by_test : (a b : Bool) → a ≡ b
        → AllZip R (filter (λ (s : Placed). not (is_copy all s)) ss) (filter (λ (t : Placed). not (is_copy others t)) ts)
        → AllZip R (cond a (s ∷ filter (λ (s : Placed). not (is_copy all s)) ss) (filter (λ (s : Placed). not (is_copy all s)) ss))
        (cond b (t ∷ filter (λ (t : Placed). not (is_copy others t)) ts) (filter (λ (t : Placed). not (is_copy others t)) ts))
    by_test true true e rest = (z.0, rest)
    by_test false false e rest = rest
    by_test _ _ e rest = absurd cc
kept_twins R rows all others seen found _ _ are are' order order' before z = absurd z

kept_alike : (R : Placed → Placed → Type 0) → ((s t : Placed) → R s t → SameRows s t) → (skip : Bool) (ss ts : List Placed)
    → AllPairs IsBefore ss → AllPairs IsBefore ts → AllZip R ss ts → AllZip R (kept_of skip ss) (kept_of skip ts)
kept_alike R rows false ss ts order order' z = z
kept_alike R rows true ss ts order order' z = kept_twins R rows ss ts [] [] ss ts refl refl order order' tt z

-- ---- answers

row_alike : (units others : List (ℕ × UnitParts)) (unit other : ℕ) (row : Option Row) → StandAlike units others unit other
    → AreAlike units others (option_map (answer_of unit) row) (option_map (answer_of other) row)
row_alike units others unit other row s = grind (arith, common_steps)

said_alike : (units others : List (ℕ × UnitParts)) (p : Position) (one two : Option Placed) → FoundAlike (AreTwins units others) one two
    → AreAlike units others (option_and_then (λ (placed : Placed). option_map (answer_of placed.id.unit) (row_at p placed.rows)) one)
    (option_and_then (λ (placed : Placed). option_map (answer_of placed.id.unit) (row_at p placed.rows)) two)
said_alike units others p one two t = grind (arith, common_steps, row_alike)

pub converted_answers : SameMatrix → ConvertedAnswers
converted_answers law order section format to result c selection p =
    let dead = selection.dead in
    let kept = kept_sequences (record selection { units = c.units }) in
    let others = kept_sequences (record selection { units = c.others }) in
    said_alike c.units c.others p (find (λ (s : Placed). holds p s.rows) kept) (find (λ (s : Placed). holds p s.rows) others)
    (zip_find (AreTwins c.units c.others) (λ (s : Placed). holds p s.rows) (λ (s : Placed). holds p s.rows)
    (λ one two t. ap (holds p) t.rows_are) kept others
    (kept_alike (AreTwins c.units c.others) (λ one two t. t.rows_are) selection.skip (live_sequences dead c.units)
    (live_sequences dead c.others) (rising_sequences dead c.units (offsets_rise order 0 c.units section c.sound))
    (rising_sequences dead c.others (offsets_rise to 0 c.others result c.spelled))
    (section_twins law dead format to c.units c.others c.same)))
