-- What is kept of the values of an entry as they are read.
use Rattle.std.proofs.Common.{◌≡◌, ℕ, ◌+◌, ◌<◌, ◌≤◌, List, [], ◌∷◌, ◌++◌, length, get_or, refl, arith}
use Rattle.std.proofs.lemmas.List.{length-append}
use Rattle.lnt_wire.specs.Reading.{At, RefusesField, Refuses}
use Rattle.lnt_wire.specs.FormBytes.{ValueBytes}
use Rattle.lnt_wire.specs.FormFaults.{IsValueFault}
use Rattle.lnt_wire.specs.declared.fault.Fault.{Fault}
use Rattle.lnt_wire.specs.declared.form.FormValue.{FormValue}
use Rattle.lnt_wire.specs.declared.format.Format.{Format}
use Rattle.lnt_header.specs.declared.header.Pair.{Pair}
use Rattle.lnt_header_bytes.specs.Stepping.{KeepsNext, KeepsEntry}
use Rattle.lnt_header_bytes.specs.TableBytes.{EntryBytes}
use Rattle.lnt_header_bytes.specs.TableFaults.{IsEntryFault}
use Rattle.lnt_header_bytes.proofs.ValueLaws.{AreReadTo, entry_read, read_more, read_none}
use Rattle.lnt_header_bytes.proofs.TableReaders.{entry_refused, refuses_values_at}

-- The values of so many pairs were read, and this is kept of them.
pub record AreKeptTo (format : Format) (pairs : List Pair) (count : ℕ) (HasKept : List FormValue → Type 0) (old now : At) : Type 0 where
  pub values : List FormValue
  pub count_is : length values ≡ count
  pub read : AreReadTo format pairs count values old now
  pub kept : HasKept values

module _ (format : Format) (pairs : List Pair) where
  pub none_kept : (HasKept : List FormValue → Type 0) (at : At) → HasKept [] → AreKeptTo format pairs 0 HasKept at at
  none_kept HasKept at kept = record { values = []; count_is = refl; read = read_none format pairs at; kept = kept }

  pub next_kept : (i : ℕ) (d : Pair) (Before After : List FormValue → Type 0) (old middle new : At) → i < length pairs
      → AreKeptTo format pairs i Before old middle → KeepsNext format (get_or pairs i d).form i Before After middle new
      → AreKeptTo format pairs (i + 1) After old new
  next_kept i d Before After old middle new lt p r = record {
    values = p.values ++ r.value ∷ [];
    count_is = omega (arith, p.count_is, length-append p.values (r.value ∷ []));
    read = read_more format pairs i d p.values r.value old middle new lt p.read r.read;
    kept = r.keeps p.values p.count_is p.kept;
  }

  pub all_kept : (count : ℕ) (HasKept : List FormValue → Type 0) (old new : At) → length pairs ≤ count
      → AreKeptTo format pairs count HasKept old new → KeepsEntry format pairs HasKept old new
  all_kept count HasKept old new le p =
      record { values = p.values; read = entry_read format pairs count p.values old new le p.read; kept = p.kept }

  pub value_refused : (i : ℕ) (d : Pair) (HasKept : List FormValue → Type 0) (old middle : At) (fault : Fault) → i < length pairs
      → AreKeptTo format pairs i HasKept old middle
      → RefusesField (IsValueFault format middle.order (get_or pairs i d).form) (ValueBytes format middle.order (get_or pairs i d).form)
      middle fault → Refuses (IsEntryFault format old.order pairs) (EntryBytes format old.order pairs) old fault
  value_refused i d HasKept old middle fault lt p r =
      entry_refused format pairs old fault (refuses_values_at format pairs i d p.values old middle fault lt p.read.read r)

-- The lemmas of `read_entry`.
pub ruleset read_entry_lemmas = (none_kept, next_kept, all_kept, value_refused)
