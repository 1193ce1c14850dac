-- What is written of a header whose entries stay where they lie.
use Rattle.std.proofs.Common.{◌≡◌, ℕ, ◌+◌, ◌<◌, ◌≤◌, List, ◌++◌, length, take, drop, get_or, refl, sym, subst, ◌∙◌, arith}
use Rattle.std.specs.List.{AllByRecursion}
use Rattle.lnt_wire.specs.Reading.{At, Reads}
use Rattle.lnt_wire.specs.Bytes.{Appends, NoneSpelled}
use Rattle.lnt_wire.specs.FormBytes.{FormBytes, HasSpelling}
use Rattle.lnt_wire.proofs.LengthLaws.{same_rest}
use Rattle.lnt_wire.specs.declared.form.FormValue.{FormValue}
use Rattle.lnt_wire.specs.declared.format.Format.{Format}
use Rattle.lnt_wire.specs.declared.format.Order.{Order}
use Rattle.lnt_wire.specs.declared.put.EncodeFault.{EncodeFault}
use Rattle.lnt_header_bytes.specs.Borrowed.{BorrowedTable, AreEntryBytes, entry_of}
use Rattle.lnt_header_bytes.specs.HeaderPuts.{EntryParts}
use Rattle.lnt_header_bytes.specs.Large.{HasLargeEntry, HasLargeValue, IfTooLarge}
use Rattle.lnt_header.specs.Joins.{Each}
use Rattle.lnt_header_bytes.proofs.AllowedLaws.{spelled_values}
use Rattle.lnt_header_bytes.proofs.LargeLemmas.{entry_large}
use Rattle.lnt_header_bytes.proofs.PassedLaws.{one_at, one_there}
use Rattle.lnt_header.proofs.PutLaws.{each_begun, each_done, each_more, put_as}
use Rattle.lnt_header_bytes.proofs.TableLaws.{entry_code}
use Rattle.lnt_header_bytes.specs.TableBytes.{ValuesBytes, EntryBytes}
use Rattle.lnt_header.specs.declared.header.Entry.{Entry}
use Rattle.lnt_header.specs.declared.header.Pair.{Pair}

-- so many entries were read and written, and the others are left
pub record EntriesPut (table : BorrowedTable) (format : Format) (order : Order) (count : ℕ) (at : At) (old now : List ℕ) : Type 0 where
  pub order_is : at.order ≡ table.order
  pub rest : Each (EntryBytes table.format table.order table.pairs) (drop count table.entries) at.rest
  pub put : Appends (Each (EntryParts format order)) (take count table.entries) old now

pub entries_begun : (table : BorrowedTable) (format : Format) (order : Order) (at : At) (text : List ℕ) → at.order ≡ table.order
    → AreEntryBytes table at.rest → EntriesPut table format order 0 at text text
entries_begun table format order at text ordered rest =
    record { order_is = ordered; rest = rest; put = each_begun (EntryParts format order) text }

pub entries_done : (table : BorrowedTable) (format : Format) (order : Order) (count n : ℕ) (at : At) (old new : List ℕ)
    → n ≡ length table.entries → n ≤ count → EntriesPut table format order count at old new
    → Appends (Each (EntryParts format order)) table.entries old new
entries_done table format order count n at old new n_is le p =
    each_done (EntryParts format order) table.entries count old new (omega (arith, n_is, le)) p.put

-- the next entry, whose values are read by these pairs
module _ (table : BorrowedTable) (format : Format) (order : Order) (from : Format) (pairs : List Pair) (count n : ℕ) (at : At)
    (old middle : List ℕ) (from_is : from ≡ table.format) (pairs_is : pairs ≡ table.pairs) (n_is : n ≡ length table.entries)
    (lt : count < n) (p : EntriesPut table format order count at old middle) where
  abbrev Spells : Entry → List ℕ → Type 0
  Spells = EntryBytes table.format table.order table.pairs

  small : count < length table.entries
  small = omega (arith, n_is, lt)

  as_table : (values : List FormValue) (x : List ℕ) → ValuesBytes from at.order pairs values x → Spells (entry_of values) x
  as_table values x q = rw (← from_is, ← pairs_is, ← p.order_is) q

  pub next_there : NoneSpelled (ValuesBytes from at.order pairs) at.rest → ⊥
  next_there none = one_there Spells table.entries count at.rest small p.rest (λ entry x more q e.
      none entry.values x more (rw (from_is, pairs_is, p.order_is) q) e)

  module _ (values : List FormValue) (next : At) (r : Reads (ValuesBytes from at.order pairs) values at next) where
    -- the values that were read are its own, and the others are left
    next_read : (get_or table.entries count (entry_of values) ≡ entry_of values) × Each Spells (drop (count + 1) table.entries) next.rest
    next_read =
        let here = one_at Spells table.entries count (entry_of values) at.rest small p.rest in
        let whole : here.prefix ++ here.back ≡ r.spelling ++ next.rest = sym here.joined ∙ r.whole in
        let found = (entry_code table.format table.order table.pairs).one (get_or table.entries count (entry_of values)) (entry_of values)
        here.prefix r.spelling here.back next.rest here.first (as_table values r.spelling r.spelled) whole in (
          found.0,
          subst (Each Spells (drop (count + 1) table.entries)) (same_rest here.prefix r.spelling here.back next.rest found.1 whole)
              here.second,
        )

    pub values_sound : AllByRecursion HasSpelling values
    values_sound = (spelled_values from at.order pairs values r.spelling r.spelled).spelled

    pub entries_more : (new : List ℕ) → Appends (Each (FormBytes format order)) values middle new
        → EntriesPut table format order (count + 1) next old new
    entries_more new a =
        let put = put_as (Each (FormBytes format order)) (EntryParts format order) values (entry_of values) middle new (λ x t. t) (λ x t. t)
        a in
        record {
          order_is = r.order ∙ p.order_is;
          rest = next_read.1;
          put = each_more (EntryParts format order) table.entries count (entry_of values) old middle new small p.put
              (subst (λ (e : Entry). Appends (EntryParts format order) e middle new) (sym next_read.0) put);
        }

    pub entries_refused : (fault : EncodeFault) → IfTooLarge (HasLargeValue format values) fault
        → IfTooLarge (HasLargeEntry format table.entries) fault
    entries_refused fault large =
        entry_large format table.entries count (entry_of values) values fault small (sym next_read.0) refl large

-- The lemmas of `add_entries_view`.
pub ruleset add_entries_view_lemmas = (entries_begun, entries_done)
