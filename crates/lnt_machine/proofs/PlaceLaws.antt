-- The places of the sequences of a program.
use Rattle.std.proofs.Common.{◌≡◌, ℕ, ◌+◌, ◌-◌, ◌<◌, true, List, [], ◌∷◌, ◌++◌, length, refl, sym, ap, subst, ◌∙◌, append_assoc, arith, inl}
use Rattle.std.proofs.Common.{inr, reverse, slice_index_or, Some, None}
use Rattle.std.proofs.lemmas.Bool.{cases_lt, true≢false}
use Rattle.std.proofs.lemmas.Option.{same_Some}
use Rattle.std.proofs.lemmas.List.{get_or_append_left, length-append, reverse-append}
use Rattle.std.proofs.Math.Seq.{get_or-append_seam}
use Rattle.lnt_header.specs.declared.numbers.NumberParts.{NumberParts}
use Rattle.lnt_header.specs.Parts.{HeaderParts}
use Rattle.lnt_wire.specs.Reading.{At}
use Rattle.lnt_header.specs.declared.op.Op.{Op}
use Rattle.lnt_header.specs.declared.op.Op.TheVariants.{Copy, EndSequence, Special}
use Rattle.lnt_header.specs.HeaderRules.{AreHeaderNumbers}
use Rattle.lnt_header.specs.Joins.{Each}
use Rattle.lnt_ops.proofs.LeftLaws.{place_found}
use Rattle.lnt_ops.specs.Walks.{IsPlace}
use Rattle.lnt_ops.specs.OpBytes.{OpBytes}
use Rattle.lnt_ops.specs.Stepping.{OpsSoFar}
use Rattle.lnt_header.specs.declared.unit_parts.UnitParts.{UnitParts}
use Rattle.lnt_machine.proofs.PartLaws.{first_of, rows_at_start, sequences_of_parts}
use Rattle.lnt_machine.proofs.RanLaws.{done_next}
use Rattle.lnt_machine.specs.Matrix.{LinesFit, row_made, rows_after, sequences, sequences_of, Row, Sequence}
use Rattle.lnt_machine.specs.Running.{AtStart, first_sequence, rows_of_ops}
use Rattle.lnt_machine.specs.Registers.{IsLine, line}
use Rattle.lnt_machine.specs.Walking.{IsPlaceOf, IsSequencePlace, KeptProgram, KeepsProgram, LinesAfter, SequenceWalk, WillGive}
use Rattle.lnt_machine.specs.Stepping.{HasPlaces, IsProgramPrefix}

-- ---- the rows from a place on

index_after : (prefix rest : List Sequence) (d : Sequence) (k : ℕ) → k ≡ length prefix → k < length (prefix ++ rest)
    → (first : Sequence) × (others : List Sequence) × (rest ≡ first ∷ others) × (slice_index_or (prefix ++ rest) k d ≡ first)
index_after [] [] d k e few = absurd (omega arith)
index_after [] (first ∷ others) d k e few = rw e (first, others, refl, refl)
index_after (one ∷ prefix) rest d k e few = rw e (by_rest rest (omega (arith, length-append prefix rest)))
  where
    by_rest : (rest : List Sequence) → 0 < length rest → (first : Sequence) × (others : List Sequence) × (rest ≡ first ∷ others)
        × (slice_index_or (one ∷ prefix ++ rest) (length (one ∷ prefix)) d ≡ first)
    by_rest [] some = absurd (omega arith)
    by_rest (first ∷ others) some = (first, others, refl, get_or-append_seam (one ∷ prefix) first others d)

-- the sequence with this index has the rows from its place on, up to the first end row
pub sequence_at : (unit : UnitParts) (program : List ℕ) (index place : ℕ) (d : Sequence) (is : IsPlaceOf unit program index place)
    → index < length (sequences unit)
    → (slice_index_or (sequences unit) index d).rows ≡ first_sequence (rows_after unit.header.numbers (reverse is.earlier) is.later)
sequence_at unit program index place d is few =
    let h = unit.header.numbers in
    let before = sequences_of (rows_of_ops h is.earlier) in
    let past = sequences_of (rows_of_ops h is.later) in
    let all : sequences unit ≡ before ++ past = ap (λ (ops : List Op). sequences_of (rows_of_ops h ops)) is.ops_are
    ∙ sequences_of_parts h is.earlier is.later is.place_is.start in
    let found = index_after before past d index is.index_is (subst (λ (list : List Sequence). index < length list) all few) in
    ap (λ (list : List Sequence). (slice_index_or list index d).rows) all
    ∙ ap (λ (s : Sequence). s.rows) found.3
    ∙ first_of (rows_of_ops h is.later) found.0 found.1 found.2
    ∙ ap first_sequence (sym (rows_at_start h (reverse is.earlier) is.later is.place_is.start))

-- the rows of the sequence with an index, where a walk gives those from its place on
pub kept_sequence : (kept : KeptProgram) (numbers : NumberParts) (unit : UnitParts) (index place : ℕ) (d : Sequence)
    (walk : SequenceWalk) → numbers ≡ kept.header.numbers → KeepsProgram kept unit
    → index < length kept.places → slice_index_or kept.places index 0 ≡ place
    → ((earlier later : List Op) → IsSequencePlace numbers kept.program earlier later place
    → WillGive (first_sequence (rows_after numbers (reverse earlier) later)) walk)
    → WillGive (slice_index_or (sequences unit) index d).rows walk
kept_sequence kept numbers unit index place d walk same keeps few at gives =
    let is : IsPlaceOf unit kept.program index place = subst (IsPlaceOf unit kept.program index) at (keeps.places index 0 few) in
    let told : numbers ≡ unit.header.numbers = same ∙ ap (λ (h : HeaderParts). h.numbers) keeps.header_is in
    let place_is : IsSequencePlace numbers kept.program is.earlier is.later place = subst
    (λ (h : NumberParts). IsSequencePlace h kept.program is.earlier is.later place) (sym told) is.place_is in
    let rows_are : first_sequence (rows_after numbers (reverse is.earlier) is.later) ≡ (slice_index_or (sequences unit) index d).rows =
    ap (λ (h : NumberParts). first_sequence (rows_after h (reverse is.earlier) is.later)) told
    ∙ sym (sequence_at unit kept.program index place d is (omega (arith, keeps.count, few))) in
    subst (λ (rows : List Row). WillGive rows walk) rows_are (gives is.earlier is.later place_is)

-- ---- places that were found on the way

-- every line is in range, after what was done
pub lines_after : (h : NumberParts) (earlier later : List Op)
    → LinesFit h (earlier ++ later) (length (earlier ++ later)) → LinesAfter h (reverse earlier) later
lines_after h earlier [] fit = tt
lines_after h earlier (op ∷ later) fit =
    let here : IsLine (line h (op ∷ reverse earlier)) = subst (λ (back : List Op). IsLine (line h back)) (done_next earlier op later)
    (fit (length earlier + 1) (omega (arith, length-append earlier (op ∷ later)))) in
    let more : LinesAfter h (reverse (earlier ++ op ∷ [])) later =
    lines_after h (earlier ++ op ∷ []) later
    (subst (λ (ops : List Op). LinesFit h ops (length ops)) (sym (append_assoc earlier (op ∷ []) later))
    fit) in
    (here, subst (λ (back : List Op). LinesAfter h back later) (reverse-append earlier (op ∷ [])) more)

pub place_of_prefix : (unit : UnitParts) (program : List ℕ) (index place : ℕ) → AreHeaderNumbers unit.header.numbers
    → Each (OpBytes unit.header.numbers) unit.ops program → LinesFit unit.header.numbers unit.ops (length unit.ops)
    → IsProgramPrefix unit.header.numbers program index place → IsPlaceOf unit program index place
place_of_prefix unit program index place valid all fit is =
    let found = place_found unit.header.numbers is.earlier unit.ops is.prefix is.rest program valid is.spelled all is.split in
    record {
      earlier = is.earlier;
      later = found.0;
      ops_are = found.1;
      place_is = record {
        place_is = subst (IsPlace unit.header.numbers program is.earlier found.0) (sym is.place_is) found.2;
        start = is.start;
        lines = lines_after unit.header.numbers is.earlier found.0
            (subst (λ (ops : List Op). LinesFit unit.header.numbers ops (length ops)) found.1 fit);
      };
      index_is = is.index_is;
    }

-- ---- places, as they are found

pub places_none : (h : NumberParts) (program : List ℕ) → HasPlaces h program 0 [] 0
places_none h program = record {
  count_is = refl;
  each = λ k d few. absurd (omega arith);
  next = record { earlier = []; prefix = []; rest = program; split = refl; place_is = refl; spelled = refl; start = tt; index_is = refl };
}

-- the sequence at hand has ended
pub places_more : (h : NumberParts) (program : List ℕ) (count : ℕ) (places : List ℕ) (place next : ℕ)
    → HasPlaces h program count places place → IsProgramPrefix h program (count + 1) next
    → HasPlaces h program (count + 1) (places ++ place ∷ []) next
places_more h program count places place next has prefix = record {
  count_is = omega (arith, has.count_is, length-append places (place ∷ []));
  each = λ k d few. elim (cases_lt k (length places)) [
    | inl earlier ↦ subst (IsProgramPrefix h program k) (sym (get_or_append_left places (place ∷ []) d k earlier)) (has.each k d earlier)
    | inr later ↦
        let last : k ≡ length places = omega (arith, length-append places (place ∷ [])) in
        let at : slice_index_or (places ++ place ∷ []) k d ≡ place = ap (λ (i : ℕ). slice_index_or (places ++ place ∷ []) i d) last
        ∙ get_or-append_seam places place [] d in
        subst (λ (i : ℕ). IsProgramPrefix h program i (slice_index_or (places ++ place ∷ []) k d)) (sym (last ∙ has.count_is))
        (subst (IsProgramPrefix h program count) (sym at) has.next)
  ];
  next = prefix;
}

-- whole sequences were read, up to here
pub prefix_of : (h : NumberParts) (start : ℕ) (program : List ℕ) (ops : List Op) (at : At) (count place : ℕ)
    → OpsSoFar h start program ops at → AtStart (reverse ops)
    → count ≡ length (sequences_of (rows_of_ops h ops)) → place ≡ length program - length at.rest → IsProgramPrefix h program count place
prefix_of h start program ops at count place so begins count_is place_is = record {
  earlier = ops;
  prefix = so.prefix;
  rest = at.rest;
  split = so.whole;
  place_is = omega (arith, place_is, ap length so.whole, length-append so.prefix at.rest);
  spelled = so.spelled;
  start = begins;
  index_is = count_is;
}

-- an operation that makes an end row is an EndSequence
pub ends_at_start : (h : NumberParts) (back : List Op) (op : Op) (row : Row) → row_made h back op ≡ Some row → row.end_sequence ≡ true
    → AtStart (op ∷ back)
ends_at_start h back EndSequence row made ends = tt
ends_at_start h back Copy row made ends = absurd (true≢false (sym ends ∙ ap (λ (r : Row). r.end_sequence) (sym (same_Some _ row made))))
ends_at_start h back (Special c) row made ends =
    absurd (true≢false (sym ends ∙ ap (λ (r : Row). r.end_sequence) (sym (same_Some _ row made))))
ends_at_start h back op row made ends = absurd (none_is made)
  where
    none_is : None ≡ Some row → ⊥
    none_is e = cc

-- the program was read to its end, and runs
pub places_kept : (unit : UnitParts) (header : HeaderParts) (program : List ℕ) (places : List ℕ) (place : ℕ)
    → AreHeaderNumbers unit.header.numbers
    → header ≡ unit.header → Each (OpBytes unit.header.numbers) unit.ops program
    → LinesFit unit.header.numbers unit.ops (length unit.ops) → HasPlaces unit.header.numbers program (length (sequences unit)) places place
    → KeepsProgram (record { header = header; program = program; places = places }) unit
places_kept unit header program places place valid same all fit has = record {
  header_is = same;
  count = has.count_is;
  places = λ k d few. place_of_prefix unit program k (slice_index_or places k d) valid all fit (has.each k d few);
}
