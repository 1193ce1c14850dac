-- Walks over entries.
use Rattle.std.proofs.Common.{◌≡◌, ◌≢◌, ℕ, suc, ◌-◌, List, [], ◌∷◌, length, length-drop, refl, sym, ap, ◌∙◌, arith}
use Rattle.lnt_wire.specs.Reading.{At}
use Rattle.lnt_wire.specs.Bytes.{NoneSpelled}
use Rattle.lnt_wire.specs.declared.format.Format.{Format}
use Rattle.lnt_header_bytes.specs.Borrowed.{first_entries, BorrowedTable, AreEntryBytes}
use Rattle.lnt_header.specs.Joins.{Each}
use Rattle.lnt_header_bytes.proofs.BorrowedLaws.{all_found, first_found, others_spelled}
use Rattle.lnt_header_bytes.specs.Marks.{from_entry}
use Rattle.lnt_header_bytes.specs.TableBytes.{EntryBytes}
use Rattle.lnt_header.specs.declared.header.Entry.{Entry}
use Rattle.lnt_header.specs.declared.header.Pair.{Pair}
use Rattle.lnt_files.specs.declared.components.Places.{Places}
use Rattle.lnt_header_bytes.specs.Stepping.{KeepsEntry}
use Rattle.lnt_files.specs.Walks.{ArePlaces, GivesEntry, left_of, IsWalk, EntryView}
use Rattle.lnt_files.specs.Stepping.{AreComponents, ReadsEntry}
use Rattle.lnt_files.proofs.EntryLemmas.{entry_kept}
use Rattle.std.proofs.lemmas.Grind.{common_steps}

table_with : BorrowedTable → List Entry → BorrowedTable
table_with table entries = record table { entries = entries }

pub begun_is : (table : BorrowedTable) (left : ℕ) (at : At) → left ≡ length table.entries → AreEntryBytes table at.rest
    → left_of table left at ≡ table
unfolding table_with
begun_is table left at count bytes = grind (arith, common_steps, table_with, all_found)

pub walk_begun : (table : BorrowedTable) (places : Places) (left : ℕ) (at : At) → ArePlaces places table.pairs
    → left ≡ length table.entries → at.order ≡ table.order
    → AreEntryBytes table at.rest → IsWalk table places left at
walk_begun table places left at are count order bytes = grind (arith, common_steps, begun_is)

-- a walk that begins before a later entry
pub before_is : (table : BorrowedTable) (first left : ℕ) (at : At) → left ≡ length table.entries - first
    → AreEntryBytes (from_entry first table) at.rest → left_of table left at ≡ from_entry first table
before_is table first left at count bytes = begun_is (from_entry first table) left at (count ∙ sym (length-drop first table.entries)) bytes

pub walk_before : (table : BorrowedTable) (places : Places) (first left : ℕ) (at : At) → ArePlaces places table.pairs
    → left ≡ length table.entries - first → at.order ≡ table.order
    → AreEntryBytes (from_entry first table) at.rest → IsWalk table places left at
walk_before table places first left at are count order bytes = grind (arith, common_steps, before_is)

pub walk_ended : (table : BorrowedTable) (left : ℕ) (at : At) → left ≡ 0 → (left_of table left at).entries ≡ []
walk_ended table left at none = ap (λ (n : ℕ). first_entries table.format table.order table.pairs n at.rest) none

one_less : (n : ℕ) → n ≢ 0 → n ≡ suc (n - 1)
one_less n some = omega (arith, some)

-- the entry that was read, and those after it
record IsStepped (table : BorrowedTable) (left : ℕ) (entry : Entry) (at new : At) : Type 0 where
  entries_are : (left_of table left at).entries ≡ entry ∷ (left_of table (left - 1) new).entries
  bytes : AreEntryBytes (left_of table (left - 1) new) new.rest

stepped : (table : BorrowedTable) (places : Places) (left : ℕ) (view : EntryView) (at new : At) → left ≢ 0
    → IsWalk table places left at → (r : ReadsEntry table.format table.pairs view at new)
    → IsStepped table left r.entry at new
stepped table places left view at new some is r = grind (arith, common_steps, one_less, first_found, others_spelled)

pub walk_steps : (table : BorrowedTable) (places : Places) (left : ℕ) (view : EntryView) (at new : At) → left ≢ 0
    → IsWalk table places left at → ReadsEntry table.format table.pairs view at new
    → GivesEntry (left_of table left at) view (left_of table (left - 1) new)
walk_steps table places left view at new some is r = record
    { entry = r.entry; entries_are = (stepped table places left view at new some is r).entries_are; pairs_are = refl; says = r.says }

pub walk_goes_on : (table : BorrowedTable) (places : Places) (left : ℕ) (view : EntryView) (at new : At) → left ≢ 0
    → IsWalk table places left at → ReadsEntry table.format table.pairs view at new
    → IsWalk table places (left - 1) new
walk_goes_on table places left view at new some is r =
    record {
      places_are = is.places_are;
      order_is = r.read.order ∙ is.order_is;
      bytes = (stepped table places left view at new some is r).bytes;
    }

never : (count : ℕ) (table : BorrowedTable) (bytes : List ℕ) → NoneSpelled (EntryBytes table.format table.order table.pairs) bytes
    → Each (EntryBytes table.format table.order table.pairs) (first_entries table.format table.order table.pairs (suc count) bytes) bytes
    → ⊥
never count table bytes none each = none _ each.prefix each.back each.first (sym each.joined)

pub walk_never_stops : (table : BorrowedTable) (places : Places) (left : ℕ) (at : At) → left ≢ 0
    → IsWalk table places left at
    → NoneSpelled (EntryBytes table.format at.order table.pairs) at.rest → ⊥
walk_never_stops table places left at some is none = grind (arith, common_steps, never, one_less)

-- the same by the table that was asked
pub in_table : (table : BorrowedTable) (format : Format) (pairs : List Pair) (places : Places) (view : EntryView) (at new : At)
    → format ≡ table.format → pairs ≡ table.pairs → ArePlaces places table.pairs
    → KeepsEntry format pairs (λ values. AreComponents places values view) at new → ReadsEntry table.format table.pairs view at new
in_table table format pairs places view at new format_is pairs_are places_are k = grind (arith, common_steps, entry_kept)

pub none_in_table : (table : BorrowedTable) (format : Format) (pairs : List Pair) (at : At) → format ≡ table.format → pairs ≡ table.pairs
    → NoneSpelled (EntryBytes format at.order pairs) at.rest
    → NoneSpelled (EntryBytes table.format at.order table.pairs) at.rest
none_in_table table format pairs at format_is pairs_are none = grind (arith, common_steps)

-- The lemmas of `next_entry`.
pub ruleset next_entry_lemmas = (walk_ended, walk_steps, walk_goes_on, walk_never_stops)
