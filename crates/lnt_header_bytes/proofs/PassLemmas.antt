-- Entries that are passed.
use Rattle.std.proofs.Common.{◌≡◌, ℕ, ◌+◌, ◌-◌, ◌<◌, List, [], ◌∷◌, ◌++◌, length, take, refl, ap, ◌∙◌, arith}
use Rattle.std.proofs.Math.Seq.{take-append_seam}
use Rattle.std.proofs.lemmas.List.{length-append}
use Rattle.lnt_wire.specs.Reading.{At, Reads, Refuses}
use Rattle.lnt_wire.specs.declared.fault.Fault.{Fault}
use Rattle.lnt_wire.specs.declared.form.FormValue.{FormValue}
use Rattle.lnt_wire.specs.declared.format.Format.{Format}
use Rattle.lnt_header.specs.declared.header.Entry.{Entry}
use Rattle.lnt_header.specs.declared.header.Pair.{Pair}
use Rattle.lnt_header_bytes.specs.Stepping.{KeepsEntry, PassesAll}
use Rattle.lnt_header.specs.Joins.{Each, Several}
use Rattle.lnt_header.proofs.ReaderLaws.{reads_more, reads_none}
use Rattle.lnt_header_bytes.specs.Borrowed.{entry_of}
use Rattle.lnt_header_bytes.specs.TableBytes.{EntryBytes}
use Rattle.lnt_header_bytes.specs.TableFaults.{IsEntryFault, IsEntriesFault}
use Rattle.lnt_header_bytes.proofs.TableReaders.{refuses_entries}
use Rattle.std.proofs.lemmas.Grind.{common_steps}

-- ---- entries one by one

pub record EntriesPassed (format : Format) (pairs : List Pair) (count : ℕ) (old now : At) : Type 0 where
  pub entries : List Entry
  pub count_is : length entries ≡ count
  pub read : Reads (Each (EntryBytes format old.order pairs)) entries old now

pub none_passed : (format : Format) (pairs : List Pair) (at : At) → EntriesPassed format pairs 0 at at
none_passed format pairs at = record { entries = []; count_is = refl; read = reads_none (EntryBytes format at.order pairs) at }

pub one_more_passed : (format : Format) (pairs : List Pair) (count : ℕ) (HasKept : List FormValue → Type 0) (old middle new : At)
    → EntriesPassed format pairs count old middle
    → KeepsEntry format pairs HasKept middle new → EntriesPassed format pairs (count + 1) old new
one_more_passed format pairs count HasKept old middle new p q = record {
  entries = p.entries ++ entry_of q.values ∷ [];
  count_is = omega (arith, p.count_is, length-append p.entries (entry_of q.values ∷ []));
  read = reads_more (λ order. EntryBytes format order pairs) p.entries (entry_of q.values) old middle new p.read q.read;
}

prefix_is : (x y z : List ℕ) → z ≡ x ++ y → take (length z - length y) z ≡ x
prefix_is x y z e = grind (arith, common_steps, length-append, take-append_seam)

pub all_passed : (format : Format) (pairs : List Pair) (count : ℕ) (bytes all left : List ℕ) (old new : At)
    → EntriesPassed format pairs count old new → all ≡ old.rest → left ≡ new.rest
    → bytes ≡ take (length all - length left) all → PassesAll count (EntryBytes format old.order pairs) bytes old new
all_passed format pairs count bytes all left old new p all_is left_is bytes_are = record {
  values = p.entries;
  count_is = p.count_is;
  read = p.read;
  bytes_are = bytes_are ∙ ap (λ (z : List ℕ). take (length z - length left) z) all_is
      ∙ ap (λ (z : List ℕ). take (length old.rest - length z) old.rest) left_is ∙ prefix_is p.read.spelling new.rest old.rest p.read.whole;
}

pub refuses_passed : (format : Format) (pairs : List Pair) (n count : ℕ) (old middle : At) (fault : Fault)
    → EntriesPassed format pairs count old middle → count < n
    → Refuses (IsEntryFault format middle.order pairs) (EntryBytes format middle.order pairs) middle fault
    → Refuses (IsEntriesFault format old.order pairs n) (Several n (EntryBytes format old.order pairs)) old fault
refuses_passed format pairs n count old middle fault p lt r =
    refuses_entries format pairs n p.entries old middle fault p.read (omega (arith, p.count_is)) r

-- The lemmas of `pass_entries`.
pub ruleset pass_entries_lemmas = (none_passed, one_more_passed, all_passed, refuses_passed)
