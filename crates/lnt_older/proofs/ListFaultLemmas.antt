-- Lists of older units that aren't read.
use Rattle.std.proofs.Common.{◌≡◌, ℕ, List, [], ◌∷◌, ◌++◌, refl, sym, ◌∙◌, append_assoc, arith}
use Rattle.std.proofs.lemmas.List.{length-append, nil_from_length}
use Rattle.lnt_wire.specs.Reading.{At, RefusesField, Refuses, IsCutShort}
use Rattle.lnt_wire.specs.Bytes.{IsCode, NoneSpelled}
use Rattle.lnt_wire.specs.Numbers.{NumberBytes}
use Rattle.lnt_wire.specs.declared.fault.Fault.{Fault}
use Rattle.lnt_wire.specs.declared.format.Format.{Format}
use Rattle.lnt_wire.specs.declared.format.Order.{Order}
use Rattle.lnt_wire.proofs.CodeLaws.{peel}
use Rattle.lnt_header.specs.Joins.{Each}
use Rattle.lnt_header.specs.declared.header.Entry.{Entry}
use Rattle.lnt_header.specs.declared.header.Pair.{Pair}
use Rattle.lnt_older.specs.OlderBytes.{BeginsEntry, ListedBytes, ListBytes}
use Rattle.lnt_older.specs.Lists.{IsListFault}
use Rattle.lnt_older.specs.Lists.IsListFault.{no_entry, no_end}
use Rattle.lnt_header_bytes.specs.TableBytes.{EntryBytes}
use Rattle.lnt_header_bytes.specs.TableFaults.{IsEntryFault}
use Rattle.lnt_older.proofs.ListLemmas.{ListedSoFar, zero_begins}
use Rattle.lnt_header_bytes.proofs.TableLaws.{entry_code}

pub listed_code : (format : Format) (order : Order) (pairs : List Pair) → IsCode (ListedBytes format order pairs)
listed_code format order pairs = record {
  one = λ a b x y r s p q e. let code = entry_code format order pairs in code.one a b x y r s p.spelled q.spelled e;
}

-- a list that ends doesn't begin with an entry
pub ends_here : (bytes more whole : List ℕ) → bytes ≡ 0 ∷ [] → bytes ++ more ≡ whole → BeginsEntry whole → ⊥
ends_here bytes more whole p e b = zero_begins more whole (rw p at e) b

pub begins_prefix : (x rest whole : List ℕ) → BeginsEntry x → whole ≡ x ++ rest → BeginsEntry whole
begins_prefix x rest whole b e = record { first = b.first; more = b.more ++ rest; some = b.some; joined = rw (e, b.joined) refl }

-- after some entries no list goes on: no entry is there, and no zero byte
pub none_list : (format : Format) (order : Order) (pairs : List Pair) (us : List Entry) (x rest bytes : List ℕ)
    → Each (ListedBytes format order pairs) us x → bytes ≡ x ++ rest → NoneSpelled (ListedBytes format order pairs) rest
    → ((more : List ℕ) → 0 ∷ more ≡ rest → ⊥) → NoneSpelled (ListBytes format order pairs) bytes
none_list format order pairs [] x rest bytes p whole none goes_on [] y more q e =
    goes_on more (rw (q.joined, q.first, q.second, whole, p) at e)
none_list format order pairs [] x rest bytes p whole none goes_on (v ∷ vs) y more q e =
    none v q.first.prefix (q.first.back ++ (q.back ++ more)) q.first.first (simp (q.joined, q.first.joined, append_assoc, whole, p) at e)
none_list format order pairs (u ∷ us) x rest bytes p whole none goes_on [] y more q e =
    zero_begins more (x ++ rest) (rw (q.joined, q.first, q.second, whole) at e)
    (begins_prefix p.prefix (p.back ++ rest) (x ++ rest) p.first.some (simp (p.joined, append_assoc)))
none_list format order pairs (u ∷ us) x rest bytes p whole none goes_on (v ∷ vs) y more q e =
    let all : q.prefix ++ (q.back ++ more) ≡ x ++ rest = rw (q.joined, append_assoc, whole) at e in
    let one = peel (listed_code format order pairs) v u q.prefix x (q.back ++ more) rest q.first p all in
    none_list format order pairs us p.back rest (p.back ++ rest) p.second refl none goes_on vs (q.first.back ++ q.back) more
    (record { prefix = q.first.back; back = q.back; first = q.first.second; second = q.second; joined = refl })
    (append_assoc q.first.back q.back more ∙ one.past)

none_listed_entry : (format : Format) (order : Order) (pairs : List Pair) (bytes : List ℕ)
    → NoneSpelled (EntryBytes format order pairs) bytes → NoneSpelled (ListedBytes format order pairs) bytes
none_listed_entry format order pairs bytes none v x more p e = none v x more p.spelled e

-- the next entry isn't there
pub entry_missing : (format : Format) (pairs : List Pair) (count : ℕ) (old middle : At) (fault : Fault)
    → ListedSoFar format pairs count old middle → BeginsEntry middle.rest
    → Refuses (IsEntryFault format middle.order pairs) (EntryBytes format middle.order pairs) middle fault
    → Refuses (IsListFault format old.order pairs) (ListBytes format old.order pairs) old fault
entry_missing format pairs count old middle fault so_far begins s =
    let r = so_far.read in
    record {
      before = r.spelling ++ s.before;
      left = s.left;
      split = simp (r.whole, s.split, append_assoc);
      place = omega (arith, s.place, r.place, length-append r.spelling s.before);
      reason = no_entry so_far.entries r.spelling s.before r.spelled refl (rw s.split at begins) (rw r.order at s.reason);
      none = none_list format old.order pairs so_far.entries r.spelling middle.rest old.rest r.spelled r.whole
          (none_listed_entry format old.order pairs middle.rest (rw r.order at s.none))
          (λ more e. zero_begins more middle.rest e begins);
    }

-- the zero byte after the entries isn't there
pub end_missing : (format : Format) (pairs : List Pair) (count : ℕ) (old middle : At) (fault : Fault)
    → ListedSoFar format pairs count old middle → RefusesField (IsCutShort 1) (NumberBytes middle.order 1) middle fault
    → Refuses (IsListFault format old.order pairs) (ListBytes format old.order pairs) old fault
end_missing format pairs count old middle fault so_far s =
    let r = so_far.read in
    let none_left = nil_from_length middle.rest (omega (arith, s.reason.short)) in
    record {
      before = r.spelling;
      left = middle.rest;
      split = r.whole;
      place = s.place ∙ r.place;
      reason = no_end so_far.entries r.spelled none_left s.reason.reason_is;
      none = none_list format old.order pairs so_far.entries r.spelling middle.rest old.rest r.spelled r.whole
          (λ v x more p e. let b = begins_prefix x more [] p.some (sym (e ∙ none_left)) in absurd (cc b.joined))
          (λ more e. absurd (cc (e, none_left)));
    }

-- what the walk cites
pub ruleset list_faults = (entry_missing, end_missing)
