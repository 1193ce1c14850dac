-- Entries that are read one by one where they lie, value by value.
use Rattle.std.proofs.lemmas.Grind.{common_steps}
use Rattle.std.proofs.Common.{◌≡◌, ℕ, ◌+◌, ◌<◌, ◌≤◌, List, [], ◌∷◌, ◌++◌, length, take, drop, get_or, codes, decimal, Option, Some}
use Rattle.std.proofs.Common.{refl, sym, ap, subst, ◌∙◌, append-nil, arith, take_all, take-append-drop, flat_map, zip}
use Rattle.std.proofs.KnownBytes.{Appends-nil, Appends-trans}
use Rattle.std.proofs.lemmas.List.{drop_more, length-append, length-take-le, take_more}
use Rattle.std.proofs.lemmas.List.Concat.{flat_map-append}
use Rattle.std.specs.Io.KnownBytes.{Appends}
use Rattle.lnt_wire.specs.Reading.{At, Reads}
use Rattle.lnt_wire.specs.Bytes.{NoneSpelled, IsCode}
use Rattle.lnt_wire.specs.FormBytes.{ValueBytes}
use Rattle.lnt_wire.specs.declared.form.FormValue.{FormValue}
use Rattle.lnt_wire.specs.declared.format.Format.{Format}
use Rattle.lnt_wire.specs.declared.format.Order.{Order}
use Rattle.lnt_header.specs.declared.header.Pair.{Pair}
use Rattle.lnt_header_bytes.specs.Borrowed.{BorrowedTable, AreEntryBytes, entry_of}
use Rattle.lnt_header_bytes.proofs.PassedLaws.{one_after, one_there}
use Rattle.lnt_header_bytes.proofs.TableLaws.{entry_code}
use Rattle.lnt_header_bytes.proofs.ValueLaws as laws
use Rattle.lnt_header_bytes.specs.Marks.{from_entry}
use Rattle.lnt_header_bytes.specs.TableBytes.{EntryBytes}
use Rattle.lnt_header.specs.declared.header.Entry.{Entry}
use Rattle.lnt_header.specs.Joins.{Each}
use Rattle.lnt_dump.specs.Headers.{component_text, entry_line}
use Rattle.lnt_dump.specs.Units.{numbered}
use Rattle.lnt_dump.specs.Stepping.{IsPaged, PassesPrinting}
use Rattle.lnt_io.specs.Prefixes.{AppendsPrefix}
use Rattle.lnt_io.proofs.PrefixLaws.{prefix_same}
use Rattle.lnt_dump.proofs.Pages.{paged_kept_prefix, paged_none, told_prefix, told_next, told_next_cut}

-- ---- values

-- The values of so many pairs were read, and their components were printed.
pub record AreReadTold (format : Format) (pairs : List Pair) (count : ℕ) (old now : At) (before after : Option (List ℕ)) : Type 0 where
  pub values : List FormValue
  pub count_is : length values ≡ count
  pub read : laws.AreReadTo format pairs count values old now
  pub appended : Appends before after (flat_map component_text (zip (take count pairs) values))

pub read_none : (format : Format) (pairs : List Pair) (at : At) (out : Option (List ℕ)) → AreReadTold format pairs 0 at at out out
read_none format pairs at out =
    record { values = []; count_is = refl; read = laws.read_none format pairs at; appended = Appends-nil out }

-- the components with one more
zip_push : (pairs : List Pair) (values : List FormValue) (pair : Pair) (value : FormValue) → length pairs ≡ length values
    → zip (pairs ++ pair ∷ []) (values ++ value ∷ []) ≡ zip pairs values ++ (pair, value) ∷ []
zip_push [] [] pair value same = refl
zip_push [] (v ∷ values) pair value same = absurd (omega (arith, same))
zip_push (p ∷ pairs) [] pair value same = absurd (omega (arith, same))
zip_push (p ∷ pairs) (v ∷ values) pair value same = grind (arith, common_steps, zip_push pairs values pair value)

components_push : (pairs : List Pair) (i : ℕ) (d : Pair) (values : List FormValue) (value : FormValue) → i < length pairs
    → length values ≡ i
    → flat_map component_text (zip (take i pairs) values) ++ component_text (get_or pairs i d, value)
    ≡ flat_map component_text (zip (take (i + 1) pairs) (values ++ value ∷ []))
components_push pairs i d values value lt count =
    grind (arith, common_steps, length-take-le, append-nil, flat_map-append, zip_push, take_more)

module _ {format : Format} {pairs : List Pair} {i : ℕ} {old middle : At} {before between : Option (List ℕ)}
    (p : AreReadTold format pairs i old middle before between) where
  pub read_more : (d : Pair) (value : FormValue) (new : At) (after : Option (List ℕ)) → i < length pairs
      → Reads (ValueBytes format middle.order (get_or pairs i d).form) value middle new
      → Appends between after (component_text (get_or pairs i d, value)) → AreReadTold format pairs (i + 1) old new before after
  read_more d value new after lt r printed = record {
    values = p.values ++ value ∷ [];
    count_is = omega (arith, length-append p.values (value ∷ []), p.count_is);
    read = laws.read_more format pairs i d p.values value old middle new lt p.read r;
    appended = grind (arith, common_steps, components_push);
  }

  -- after the start of the line
  pub read_all : (name : List ℕ) (index : ℕ) {start after : Option (List ℕ)}
      → Appends start before (name ++ (codes " " ++ decimal index)) → length pairs ≤ i → Appends between after (codes "\n")
      → PassesPrinting (entry_line name pairs index) format pairs old middle start after
  read_all name index {start} {after} begun le end = record {
    entry = entry_of p.values;
    read = laws.entry_read format pairs i p.values old middle le p.read;
    printed = grind (arith, common_steps, take_all, Appends-trans);
  }

  pub none_there : (d : Pair) → i < length pairs → NoneSpelled (ValueBytes format middle.order (get_or pairs i d).form) middle.rest
      → NoneSpelled (EntryBytes format old.order pairs) old.rest
  none_there d lt none = laws.no_entry format pairs i d p.values old middle lt p.read none

-- ---- entries

-- A cursor stands before the entry of this number, and the lines of those before it were printed, after the text before them.
pub record IsBefore (name : List ℕ) (table : BorrowedTable) (number : ℕ) (at : At) (before page : List ℕ) (old now : Option (List ℕ))
    : Type 0 where
  pub order_is : at.order ≡ table.order
  pub lies : AreEntryBytes (from_entry number table) at.rest
  pub paged : IsPaged (before ++ numbered (entry_line name table.pairs) 0 (take number table.entries)) old now page

pub at_first : (name : List ℕ) (table : BorrowedTable) (at : At) (page : List ℕ) (out : Option (List ℕ)) → at.order ≡ table.order
    → AreEntryBytes table at.rest → IsBefore name table 0 at page page out out
at_first name table at page out order lies = record {
  order_is = order;
  lies = lies;
  paged = paged_none page out;
}

-- a value that was read is the first of those that are there
first_is : {X : Type 0} (P : X → List ℕ → Type 0) → IsCode P → (vs : List X) (n : ℕ) (d u : X) (x rest bytes : List ℕ) → n < length vs
    → P u x → Each P (drop n vs) bytes → bytes ≡ x ++ rest → u ≡ get_or vs n d
first_is P code vs n d u x rest bytes lt p q e = grind (arith, common_steps, drop_more)

-- The next entry of a table was read, and its line was added to the page.
record IsLineOf (name : List ℕ) (table : BorrowedTable) (number : ℕ) (new : At) (page added : List ℕ) : Type 0 where
  entry : Entry
  is : entry ≡ get_or table.entries number entry
  order_is : new.order ≡ table.order
  lies : AreEntryBytes (from_entry (number + 1) table) new.rest
  line : added ≡ page ++ entry_line name table.pairs number entry

module _ {name : List ℕ} {table : BorrowedTable} {format : Format} {pairs : List Pair} {number : ℕ} {at : At} {before page : List ℕ}
    {old now : Option (List ℕ)} (format_is : format ≡ table.format) (pairs_are : pairs ≡ table.pairs)
    (is : IsBefore name table number at before page old now) (lt : number < length table.entries) where
  next_line : {new : At} {added : List ℕ} → PassesPrinting (entry_line name pairs number) format pairs at new (Some page) (Some added)
      → IsLineOf name table number new page added
  next_line {new} {added} p =
      let P = EntryBytes table.format table.order table.pairs in
      let code = entry_code table.format table.order table.pairs in
      let read : P p.entry p.read.spelling =
      subst (λ (o : Order). EntryBytes table.format o table.pairs p.entry p.read.spelling) is.order_is
      (subst (λ (f : Format). EntryBytes f at.order table.pairs p.entry p.read.spelling) format_is
      (subst (λ (ps : List Pair). EntryBytes format at.order ps p.entry p.read.spelling) pairs_are p.read.spelled)) in
      record {
        entry = p.entry;
        is = first_is P code table.entries number p.entry p.entry p.read.spelling new.rest at.rest lt read is.lies p.read.whole;
        order_is = p.read.order ∙ is.order_is;
        lies = one_after P code table.entries number p.entry p.read.spelling new.rest at.rest lt read is.lies p.read.whole;
        line = p.printed ∙ ap (λ (ps : List Pair). page ++ entry_line name ps number p.entry) pairs_are;
      }

  pub at_next : {new : At} {added left : List ℕ} {then : Option (List ℕ)}
      → PassesPrinting (entry_line name pairs number) format pairs at new (Some page) (Some added) → IsPaged added now then left
      → IsBefore name table (number + 1) new before left old then
  at_next {left = left} {then = then} p turned = grind (arith, next_line p, told_next)

  -- of the page a prefix was written
  pub line_cut : {new : At} {added : List ℕ} {then : Option (List ℕ)}
      → PassesPrinting (entry_line name pairs number) format pairs at new (Some page) (Some added) → AppendsPrefix now then added
      → AppendsPrefix old then (before ++ numbered (entry_line name table.pairs) 0 table.entries)
  line_cut {added = added} {then = then} p f =
      let l = next_line p in
      let line = entry_line name table.pairs in
      told_next_cut line before table.entries number l.entry lt l.is is.paged
      (prefix_same now then added (page ++ line number l.entry) l.line f)

  pub is_there : NoneSpelled (EntryBytes format at.order pairs) at.rest → ⊥
  is_there none = grind (arith, common_steps, one_there)

module _ {name : List ℕ} {table : BorrowedTable} {number : ℕ} {at : At} {before page : List ℕ} {old now : Option (List ℕ)}
    (is : IsBefore name table number at before page old now) where
  -- nothing more was written
  pub lines_stay : AppendsPrefix old now (before ++ numbered (entry_line name table.pairs) 0 table.entries)
  lines_stay =
      told_prefix (entry_line name table.pairs) before (take number table.entries) (drop number table.entries)
      (sym (take-append-drop number table.entries)) (paged_kept_prefix is.paged)

  -- all lines were printed
  pub all_told : length table.entries ≤ number → IsPaged (before ++ numbered (entry_line name table.pairs) 0 table.entries) old now page
  all_told le = grind (arith, common_steps, take_all)
