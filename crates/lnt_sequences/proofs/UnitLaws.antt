-- The sequences of a section, one more unit at a time.
use Rattle.std.proofs.Common.{◌≡◌, ◌≢◌, ℕ, suc, ◌+◌, ◌^◌, ◌<◌, ◌≤◌, List, [], ◌∷◌, ◌++◌, Option, refl, sym, ap, ◌∙◌, arith, length, All}
use Rattle.std.proofs.Common.{AllPairs, append-nil}
use Rattle.std.proofs.lemmas.List.Concat.{flat_map-append}
use Rattle.std.proofs.lemmas.List.Elements.{All-append, All-cons, All-filter, All-nil, All-weaker}
use Rattle.std.proofs.lemmas.List.Kept.{AllPairs-filter}
use Rattle.lnt_wire.specs.declared.format.Order.{Order}
use Rattle.lnt_header.specs.declared.unit_parts.UnitParts.{UnitParts}
use Rattle.lnt_unit.specs.UnitBytes.{UnitsFrom}
use Rattle.lnt_machine.specs.declared.row.Row.{Row}
use Rattle.lnt_machine.specs.declared.row.Sequence.{Sequence}
use Rattle.lnt_machine.specs.Matrix.{joined_rows, rows, Runs, sequences_of}
use Rattle.lnt_spans.proofs.EachTwoLaws.{pairs_append, pairs_cons, pairs_head, pairs_nil, pairs_tail}
use Rattle.lnt_sequences.specs.declared.collected.Collected.{Collected}
use Rattle.lnt_sequences.specs.Extents.{extents_of}
use Rattle.lnt_sequences.specs.Rules.{AreDistinct, AreOrdered}
use Rattle.lnt_sequences.specs.Sequences.{is_live, live_in, live_of, live_sequences, Placed, placed_in, placed_rows}
use Rattle.lnt_sequences.specs.Watching.{Collects, CollectsRows}
use Rattle.lnt_sequences.proofs.WalkLaws.{each_ended, extents_ended, placed_from, whole}
use Rattle.std.proofs.lemmas.Grind.{common_steps}
use Rattle.lnt_unit.proofs.UnitLaws.{unit_is_some}

-- ---- the sequences

-- those of one more unit
pub live-append : (dead : Option ℕ) (units : List (ℕ × UnitParts)) (unit : ℕ × UnitParts)
    → live_sequences dead (units ++ unit ∷ []) ≡ live_sequences dead units ++ live_in dead unit
live-append dead units unit = grind (arith, common_steps, flat_map-append, append-nil)

pub ordered-append : (xs ys : List Placed) → AreOrdered xs → AreOrdered ys → AreOrdered (xs ++ ys)
ordered-append [] ys h k = k
ordered-append (x ∷ xs) ys h k = (h.0, ordered-append xs ys h.1 k)

-- ---- what is collected of them

-- of no row yet
pub collects_none : (dead : Option ℕ) (unit : ℕ) (collected : Collected) (ss : List Placed) → Collects collected ss
    → CollectsRows dead unit collected ss []
collects_none dead unit collected ss c few = grind (arith, common_steps, append-nil)

-- of all rows of a unit, each of which stands in a sequence
pub collects_all : (dead : Option ℕ) (unit : ℕ) (collected : Collected) (ss : List Placed) (all : List Row)
    → joined_rows (sequences_of all) ≡ all → length all < 2 ^ 64
    → CollectsRows dead unit collected ss all → Collects collected (ss ++ live_of dead (placed_rows unit all))
collects_all dead unit collected ss all closed few c = grind (arith, common_steps, whole, extents_ended, each_ended, flat_map-append)

pub collects_unit : (dead : Option ℕ) (unit : ℕ × UnitParts) (collected : Collected) (ss : List Placed) → Runs unit.1
    → length (rows unit.1) < 2 ^ 64 → CollectsRows dead unit.0 collected ss (rows unit.1) → Collects collected (ss ++ live_in dead unit)
collects_unit dead unit collected ss runs few c = collects_all dead unit.0 collected ss (rows unit.1) runs.closed few c

-- the same of a section's units and one more
pub collects_more : (dead : Option ℕ) (units : List (ℕ × UnitParts)) (unit : ℕ × UnitParts) (collected : Collected) → Runs unit.1
    → length (rows unit.1) < 2 ^ 64 → CollectsRows dead unit.0 collected (live_sequences dead units) (rows unit.1)
    → Collects collected (live_sequences dead (units ++ unit ∷ []))
collects_more dead units unit collected runs few c =
    let more = collects_unit dead unit collected (live_sequences dead units) runs few c in
    record {
      extents = more.extents ∙ ap extents_of (sym (live-append dead units unit));
    }

-- ---- ids

abbrev IdDiffers : Placed → Placed → Type 0
IdDiffers one other = one.id ≢ other.id

pub record IsFrom (unit index : ℕ) (placed : Placed) : Type 0 where
  pub unit_is : placed.id.unit ≡ unit
  pub index_from : index ≤ placed.id.index

pub all_from : (unit index : ℕ) (ss : List Sequence) → All (IsFrom unit index) (placed_from unit index ss)
all_from unit index [] = All-nil (IsFrom unit index)
all_from unit index (s ∷ ss) =
    All-cons (IsFrom unit index) (record { id = record { unit = unit; index = index }; rows = s.rows }) (placed_from unit (index + 1) ss)
    (record { unit_is = refl; index_from = omega arith }) (All-weaker (IsFrom unit (index + 1)) (IsFrom unit index)
    (λ placed f. record { unit_is = f.unit_is; index_from = let from = f.index_from in omega arith }) (placed_from unit (index + 1) ss)
    (all_from unit (index + 1) ss))

distinct_from : (unit index : ℕ) (ss : List Sequence) → AreDistinct (placed_from unit index ss)
distinct_from unit index [] = pairs_nil IdDiffers
distinct_from unit index (s ∷ ss) =
    let first : Placed = record { id = record { unit = unit; index = index }; rows = s.rows } in
    pairs_cons IdDiffers first (placed_from unit (index + 1) ss) (All-weaker (IsFrom unit (index + 1)) (IdDiffers first)
    (λ placed f same. let from = f.index_from in omega (arith, ap (λ id. id.index) same)) (placed_from unit (index + 1) ss)
    (all_from unit (index + 1) ss)) (distinct_from unit (index + 1) ss)

-- the sequences of one unit
pub distinct_all : (dead : Option ℕ) (unit : ℕ) (all : List Row) → AreDistinct (live_of dead (placed_rows unit all))
distinct_all dead unit all = AllPairs-filter IdDiffers (is_live dead) (placed_rows unit all) (distinct_from unit 0 (sequences_of all))

pub distinct_in : (dead : Option ℕ) (unit : ℕ × UnitParts) → AreDistinct (live_in dead unit)
distinct_in dead unit = distinct_all dead unit.0 (rows unit.1)

abbrev pub IsOf : ℕ → Placed → Type 0
IsOf unit placed = placed.id.unit ≡ unit

pub all_of : (dead : Option ℕ) (unit : ℕ × UnitParts) → All (IsOf unit.0) (live_in dead unit)
all_of dead unit = All-filter (is_live dead) (IsOf unit.0) (placed_in unit)
    (All-weaker (IsFrom unit.0 0) (IsOf unit.0) (λ placed f. f.unit_is) (placed_in unit) (all_from unit.0 0 (sequences_of (rows unit.1))))

abbrev IsNotOf : ℕ → Placed → Type 0
IsNotOf unit placed = unit ≢ placed.id.unit

none_of : (dead : Option ℕ) (unit : ℕ) (units : List (ℕ × UnitParts)) → All (λ (other : ℕ × UnitParts). unit ≢ other.0) units
    → All (IsNotOf unit) (live_sequences dead units)
none_of dead unit [] h = All-nil (IsNotOf unit)
none_of dead unit (other ∷ units) h = All-append (IsNotOf unit) (live_in dead other) (live_sequences dead units)
    (All-weaker (IsOf other.0) (IsNotOf unit) (λ placed same e. h 0 other (omega arith) (e ∙ same)) (live_in dead other)
    (all_of dead other)) (none_of dead unit units (λ k d l. h (suc k) d (omega arith)))

-- those of units with different offsets
pub distinct_sequences : (dead : Option ℕ) (units : List (ℕ × UnitParts))
    → AllPairs (λ (one : ℕ × UnitParts) (other : ℕ × UnitParts). one.0 ≢ other.0) units → AreDistinct (live_sequences dead units)
distinct_sequences dead [] h = pairs_nil IdDiffers
distinct_sequences dead (unit ∷ units) h =
    let Differ : ℕ × UnitParts → ℕ × UnitParts → Type 0 = λ one other. one.0 ≢ other.0 in
    let others = none_of dead unit.0 units (pairs_head Differ unit units h) in
    pairs_append IdDiffers (live_in dead unit) (live_sequences dead units) (distinct_in dead unit)
    (distinct_sequences dead units (pairs_tail Differ unit units h))
    (All-weaker (IsOf unit.0) (λ (placed : Placed). All (IdDiffers placed) (live_sequences dead units))
    (λ placed of k d l same. others k d l (sym of ∙ ap (λ id. id.unit) same)) (live_in dead unit) (all_of dead unit))

-- ---- offsets

-- each unit of a section has bytes, so it stands after those before it
offsets_from : (order : Order) (offset : ℕ) (units : List (ℕ × UnitParts)) (bytes : List ℕ) → UnitsFrom order offset units bytes
    → All (λ (unit : ℕ × UnitParts). offset ≤ unit.0) units
offsets_from order offset [] bytes h = All-nil (λ (unit : ℕ × UnitParts). offset ≤ unit.0)
offsets_from order offset (unit ∷ units) bytes h =
    let at = h.2 in
    All-cons (λ (unit : ℕ × UnitParts). offset ≤ unit.0) unit units (omega arith)
    (All-weaker (λ (unit : ℕ × UnitParts). offset + length h.0 ≤ unit.0) (λ (unit : ℕ × UnitParts). offset ≤ unit.0)
    (λ other le. omega arith) units (offsets_from order (offset + length h.0) units h.1 h.5))

pub offsets_rise : (order : Order) (offset : ℕ) (units : List (ℕ × UnitParts)) (bytes : List ℕ) → UnitsFrom order offset units bytes
    → AllPairs (λ (one : ℕ × UnitParts) (other : ℕ × UnitParts). one.0 < other.0) units
offsets_rise order offset [] bytes h = pairs_nil (λ (one : ℕ × UnitParts) (other : ℕ × UnitParts). one.0 < other.0)
offsets_rise order offset (unit ∷ units) bytes h =
    let at = h.2 in
    let some = unit_is_some order unit.1 h.0 h.3 in
    pairs_cons (λ (one : ℕ × UnitParts) (other : ℕ × UnitParts). one.0 < other.0) unit units
    (All-weaker (λ (other : ℕ × UnitParts). offset + length h.0 ≤ other.0) (λ (other : ℕ × UnitParts). unit.0 < other.0)
    (λ other le. omega arith) units (offsets_from order (offset + length h.0) units h.1 h.5))
    (offsets_rise order (offset + length h.0) units h.1 h.5)

pub offsets_differ : (order : Order) (offset : ℕ) (units : List (ℕ × UnitParts)) (bytes : List ℕ) → UnitsFrom order offset units bytes
    → AllPairs (λ (one : ℕ × UnitParts) (other : ℕ × UnitParts). one.0 ≢ other.0) units
offsets_differ order offset units bytes u i j d lt l same =
    let rise = offsets_rise order offset units bytes u i j d lt l in omega (arith, rise, same)
