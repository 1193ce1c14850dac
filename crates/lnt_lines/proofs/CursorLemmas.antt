-- The spans of an index, one after another.
use Rattle.std.proofs.Common.{◌≡◌, ◌∙◌, ℕ, suc, ◌+◌, ◌^◌, ◌<◌, List, [], ◌∷◌, ◌++◌, Option, Some, None, refl, sym, ap, subst, arith, get_or}
use Rattle.std.proofs.Common.{append-nil, length, IfSome, IsSomeAnd, map, IsPermutation}
use Rattle.std.specs.List.{AllByRecursion, AllZip, Contains}
use Rattle.std.proofs.lemmas.List.Elements.{recursion_from_All}
use Rattle.std.proofs.lemmas.List.Sorted.{All-permutation}
use Rattle.lnt_header.specs.declared.unit_parts.UnitParts.{UnitParts}
use Rattle.lnt_machine.proofs.FittingLaws.{HasNumbers}
use Rattle.lnt_machine.specs.declared.row.Row.{Row}
use Rattle.lnt_machine.specs.Walking.{KeptProgram, SequenceWalk, WillGive}
use Rattle.lnt_spans.specs.declared.span.Span.{Span}
use Rattle.lnt_spans.specs.Remaining.{GivesFirstSpan}
use Rattle.lnt_spans.specs.Spans.{FitsSpan, FitSpans}
use Rattle.lnt_sequences.specs.declared.extent.Extent.{Extent}
use Rattle.lnt_sequences.specs.declared.sequence.SeqId.{SeqId}
use Rattle.lnt_sequences.specs.RowSpans.{EntriesInTurn, IsExtentOf, row_spans, spans_of, GivesSpan, HasSpans, rows_left, SpansInTurn}
use Rattle.lnt_sequences.specs.Laws.{SequenceSpans}
use Rattle.lnt_sequences.specs.Rules.{IsOrdered}
use Rattle.lnt_sequences.specs.Watching.{last_after}
use Rattle.lnt_spans.specs.Spans.{AreInOrder}
use Rattle.lnt_spans.proofs.PositionLaws.{at_most_itself}
use Rattle.lnt_sequences.proofs.FittingLaws.{kept_spans_fit}
use Rattle.lnt_sequences.proofs.KeptLaws.{kept_ordered}
use Rattle.lnt_sequences.specs.Sequences.{kept_sequences, live_sequences, Placed, position_of, Selection}
use Rattle.lnt_lines.specs.Cursors.{AreToCome, ComeLater, Cursor, GivesAllOf, GivesSequence, room_for, room_of, rows_here}
use Rattle.lnt_lines.specs.Stepping.{GivesHere}
use Rattle.lnt_lines.specs.Indexed.{Indexed, IsIndexOf, IsSequenceIn}
use Rattle.lnt_lines.proofs.IndexLemmas.{live_in_index, live_ordered, sequence_in}
use Rattle.lnt_lines.proofs.WholeLemmas.{whole_spans}

-- ---- the sequence at hand

given_by : (new : Cursor) (here later spans : List Span) (walk : SequenceWalk) (result : Option Span) → new.rows ≡ Some walk
    → ComeLater later new → spans ≡ here ++ later
    → GivesSpan new.unit here result walk new.last → GivesHere new spans result
given_by new [] later spans walk None is come_later are gives =
    record { sequences = come_later.sequences; each = come_later.each; spans_are = are ∙ come_later.spans_are }
given_by new [] later spans walk (Some made) is come_later are gives = absurd gives
given_by new (span ∷ here) later spans walk None is come_later are gives = absurd gives
given_by new (span ∷ here) later spans walk (Some made) is come_later are gives =
    let come : AreToCome new (here ++ later) = record {
      here = here;
      later = later;
      come_here = rw is gives.1;
      come_later = come_later;
      spans_are = refl;
    } in
    subst (λ (list : List Span). GivesFirstSpan (AreToCome new) list (Some made)) (sym are) (gives.0, come)

pub given_here : (units : List ℕ) (programs : List KeptProgram) (entries : List Extent) (unit : ℕ) (rows : Option SequenceWalk)
    (old new : SequenceWalk) (last last' : Option Row) (result : Option Span) (spans : List Span)
    → rows ≡ Some old → ((here : List Span) → HasSpans unit here old last → GivesSpan unit here result new last')
    → AreToCome (record { units = units; programs = programs; entries = entries; unit = unit; rows = rows; last = last }) spans
    → GivesHere (record { units = units; programs = programs; entries = entries; unit = unit; rows = Some new; last = last' }) spans result
given_here units programs entries unit rows old new last last' result spans is gives come =
    let here : HasSpans unit come.here old last = rw is at come.come_here in
    given_by (record { units = units; programs = programs; entries = entries; unit = unit; rows = Some new; last = last' }) come.here
    come.later spans new result refl
    (record { sequences = come.come_later.sequences; each = come.come_later.each; spans_are = come.come_later.spans_are }) come.spans_are
    (gives come.here here)

-- ---- the next sequence

abbrev IsEntry : List ℕ → List KeptProgram → Extent → Placed → Type 0
IsEntry units programs entry placed = (placed.id ≡ entry.id) × IsSequenceIn units programs entry.id placed.rows

begun_by : (units : List ℕ) (programs : List KeptProgram) (entry : Extent) (entries : List Extent) (placed : Placed)
    (sequences : List Placed)
    (found : Option SequenceWalk) (spans : List Span)
    → AllZip (IsEntry units programs) entries sequences → placed.id ≡ entry.id → IsSomeAnd found (WillGive placed.rows)
    → spans ≡ spans_of (placed ∷ sequences)
    → AreToCome (record { units = units; programs = programs; entries = entries; unit = entry.id.unit; rows = found; last = None }) spans
begun_by units programs entry entries placed sequences None spans each same gives are = absurd gives
begun_by units programs entry entries placed sequences (Some walk) spans each same gives are = record {
  here = row_spans entry.id.unit placed.rows;
  later = spans_of sequences;
  come_here = record { rows = placed.rows; to_come = gives; spans_are = refl };
  come_later = record { sequences = sequences; each = each; spans_are = refl };
  spans_are = are ∙ ap (λ (id : SeqId). row_spans id.unit placed.rows ++ spans_of sequences) same;
}

begun_from : (units : List ℕ) (programs : List KeptProgram) (entry : Extent) (entries : List Extent) (sequences : List Placed)
    (found : Option SequenceWalk) (spans : List Span)
    → AllZip (IsEntry units programs) (entry ∷ entries) sequences
    → ((rows : List Row) → IsSequenceIn units programs entry.id rows → IsSomeAnd found (WillGive rows)) → spans ≡ spans_of sequences
    → AreToCome (record { units = units; programs = programs; entries = entries; unit = entry.id.unit; rows = found; last = None }) spans
begun_from units programs entry entries [] found spans each gives are = absurd each
begun_from units programs entry entries (placed ∷ sequences) found spans each gives are =
    begun_by units programs entry entries placed sequences found spans each.1 each.0.0 (gives placed.rows each.0.1) are

pub begun : (cursor : Cursor) (entry : Extent) (entries : List Extent) (found : Option SequenceWalk) (spans : List Span)
    → cursor.entries ≡ entry ∷ entries
    → ((rows : List Row) → IsSequenceIn cursor.units cursor.programs entry.id rows → IsSomeAnd found (WillGive rows))
    → ComeLater spans cursor
    → AreToCome (record {
      units = cursor.units;
      programs = cursor.programs;
      entries = entries;
      unit = entry.id.unit;
      rows = found;
      last = None;
    }) spans
begun cursor entry entries found spans is gives later =
    begun_from cursor.units cursor.programs entry entries later.sequences found spans
    (subst (λ (es : List Extent). AllZip (IsEntry cursor.units cursor.programs) es later.sequences) is later.each) gives later.spans_are

room_some : (list : List KeptProgram) → 0 < room_of list
room_some [] = omega arith
room_some (first ∷ list) = omega (arith, room_some list)

pub begun_fewer : (programs : List KeptProgram) (all entries : List Extent) (entry : Extent) (found : Option SequenceWalk)
    → all ≡ entry ∷ entries
    → IfSome found (λ walk. rows_left walk < room_of programs)
    → rows_here found + room_for (room_of programs) entries < room_for (room_of programs) all
begun_fewer programs all entries entry None is left = rw is (omega (arith, room_some programs))
begun_fewer programs all entries entry (Some walk) is left = rw is (omega (arith, left))

-- ---- all of them

entries_found : (selection : Selection) (index : Indexed) (entries : List Extent) (in_turn : List Placed) → IsIndexOf selection index
    → AllZip (IsExtentOf (kept_sequences selection)) entries in_turn → AllZip (IsEntry index.units index.programs) entries in_turn
entries_found selection index [] [] is each = tt
entries_found selection index (entry ∷ entries) (placed ∷ in_turn) is each = (
  (each.0.id_is, sequence_in selection index entry.id placed is each.0.contained each.0.id_is),
  entries_found selection index entries in_turn is each.1,
)
entries_found selection index _ _ is each = absurd each

-- numbers that fit, each by its index
pub all_small : (offsets : List ℕ) → ((k : ℕ) → get_or offsets k 0 < 2 ^ 64) → AllByRecursion (λ offset. offset < 2 ^ 64) offsets
all_small [] each = tt
all_small (offset ∷ offsets) each = (each 0, all_small offsets (λ k. each (suc k)))

small_units : (units : List (ℕ × UnitParts)) → AllByRecursion (λ offset. offset < 2 ^ 64) (map (λ (unit : ℕ × UnitParts). unit.0) units)
    → AllByRecursion (λ (unit : ℕ × UnitParts). unit.0 < 2 ^ 64) units
small_units [] small = tt
small_units (unit ∷ units) small = (small.0, small_units units small.1)

fitting_spans : (selection : Selection) (index : Indexed) (spans : List Span) → IsIndexOf selection index
    → AllByRecursion HasNumbers index.programs → AllByRecursion (λ offset. offset < 2 ^ 64) index.units
    → IsPermutation (spans_of (kept_sequences selection)) spans → FitSpans spans
fitting_spans selection index spans is numbers small same =
    let all = spans_of (kept_sequences selection) in
    let offsets = small_units selection.units (subst (AllByRecursion (λ offset. offset < 2 ^ 64)) is.offsets small) in
    recursion_from_All FitsSpan spans
    (All-permutation FitsSpan all spans same (kept_spans_fit selection index.programs is.programs numbers offsets))

pub gives_all : (selection : Selection) (index : Indexed) → EntriesInTurn → AllByRecursion HasNumbers index.programs
    → AllByRecursion (λ offset. offset < 2 ^ 64) index.units → IsIndexOf selection index → GivesAllOf selection (length index.entries)
    (record { units = index.units; programs = index.programs; entries = index.entries; unit = 0; rows = None; last = None })
gives_all selection index law numbers small is =
    let all = law (kept_sequences selection) index.entries is.settled is.entries is.apart
    (kept_ordered selection.skip (live_sequences selection.dead selection.units) is.ordered) in
    record {
      spans = spans_of all.in_turn;
      to_come = record {
        here = [];
        later = spans_of all.in_turn;
        come_here = refl;
        come_later = record {
          sequences = all.in_turn;
          each = entries_found selection index index.entries all.in_turn is all.each;
          spans_are = refl;
        };
        spans_are = refl;
      };
      spans_are = all.permuted;
      in_order = all.in_order;
      answers = all.answers;
      whole = whole_spans selection (spans_of all.in_turn) all.in_order all.answers;
      enough = all.count;
      fits = fitting_spans selection index (spans_of all.in_turn) is numbers small all.permuted;
    }

-- ---- one sequence alone

pub one_begun : (units : List ℕ) (programs : List KeptProgram) (unit : ℕ) (rows : List Row) (found : Option SequenceWalk)
    → IsSomeAnd found (WillGive rows)
    → AreToCome (record { units = units; programs = programs; entries = []; unit = unit; rows = found; last = None }) (row_spans unit rows)
one_begun units programs unit rows None gives = absurd gives
one_begun units programs unit rows (Some walk) gives = record {
  here = row_spans unit rows;
  later = [];
  come_here = record { rows = rows; to_come = gives; spans_are = refl };
  come_later = record { sequences = []; each = tt; spans_are = refl };
  spans_are = sym (append-nil (row_spans unit rows));
}

-- its spans are in order
one_in_order : (placed : Placed) → SpansInTurn → IsOrdered placed.rows → AreInOrder (row_spans placed.id.unit placed.rows)
one_in_order placed law ordered = by_rows placed.rows refl
  where
    by_rows : (rows : List Row) → placed.rows ≡ rows → AreInOrder (row_spans placed.id.unit placed.rows)
    by_rows [] e = rw e tt
    by_rows (row ∷ rows) e = subst AreInOrder (append-nil (row_spans placed.id.unit placed.rows))
        (law (position_of row) (position_of (last_after row rows)) (placed ∷ [])
        (row, rows, e, at_most_itself (position_of row), at_most_itself (position_of (last_after row rows))) (ordered, tt))

pub gives_sequence : (selection : Selection) (index : Indexed) (placed : Placed) (id : SeqId) (cursor : Cursor) → SequenceSpans
    → SpansInTurn → IsIndexOf selection index → Contains (live_sequences selection.dead selection.units) placed → placed.id ≡ id
    → ((rows : List Row) → IsSequenceIn index.units index.programs id rows → AreToCome cursor (row_spans id.unit rows))
    → GivesSequence placed cursor
gives_sequence selection index placed id cursor spans in_turn is live same comes =
    let ordered = live_ordered selection index placed is live in
    record {
      spans = row_spans placed.id.unit placed.rows;
      to_come = subst (λ (i : SeqId). AreToCome cursor (row_spans i.unit placed.rows)) (sym same)
          (comes placed.rows (live_in_index selection index id placed is live same));
      in_order = one_in_order placed in_turn ordered;
      held = λ p. (spans placed.id.unit placed.rows p ordered).0;
      unheld = λ p. (spans placed.id.unit placed.rows p ordered).1;
    }
