-- Lists of older units.
use Rattle.std.proofs.Common.{◌≡◌, ℕ, ◌+◌, ◌<◌, ◌≤◌, ◌-◌, List, [], ◌∷◌, ◌++◌, length, take, refl, ap, ◌∙◌, append_assoc, arith}
use Rattle.std.proofs.lemmas.List.{length-append}
use Rattle.lnt_wire.specs.Reading.{At, Reads}
use Rattle.lnt_wire.specs.FormBytes.{FormBytes, form_of}
use Rattle.lnt_wire.specs.Numbers.{NumberBytes}
use Rattle.lnt_wire.specs.declared.form.Form.TheVariants as forms
use Rattle.lnt_wire.specs.declared.form.FormValue.{FormValue}
use Rattle.lnt_wire.specs.declared.format.Format.{Format}
use Rattle.lnt_wire.specs.declared.format.Order.{Order}
use Rattle.lnt_header.specs.Joins.{Each}
use Rattle.lnt_header.specs.declared.header.Entry.{Entry}
use Rattle.lnt_header.specs.declared.header.Pair.{Pair}
use Rattle.lnt_header.proofs.ByteLaws.{one_digit}
use Rattle.lnt_header.proofs.ReaderLaws.{reads_none, reads_more}
use Rattle.lnt_older.specs.OlderBytes.{BeginsEntry, ListedBytes}
use Rattle.lnt_older.specs.Lists.{BeginsWithPath, PassesList}
use Rattle.lnt_header_bytes.specs.Borrowed.{entry_of}
use Rattle.lnt_header_bytes.specs.Stepping.{KeepsEntry}
use Rattle.lnt_header_bytes.specs.TableBytes.{EntryBytes}
use Rattle.lnt_header_bytes.proofs.Prefixes.{prefix_taken}
use Rattle.std.proofs.lemmas.Grind.{common_steps}

-- the bytes of a text end with a zero byte
text_ends : (format : Format) (order : Order) (value : FormValue) (bytes : List ℕ) → form_of value ≡ forms.Text
    → FormBytes format order value bytes → (text : List ℕ) × (bytes ≡ text ++ 0 ∷ [])
text_ends format order value bytes is p = grind (arith, common_steps)

-- and so does the first value of an entry that begins with one
pub path_first : (format : Format) (order : Order) (pairs : List Pair) (entry : Entry) (bytes : List ℕ) → BeginsWithPath pairs
    → EntryBytes format order pairs entry bytes → (text : List ℕ) × (past : List ℕ) × (bytes ≡ text ++ 0 ∷ past)
path_first format order pairs entry bytes b p = grind (arith, common_steps, text_ends, append_assoc)

entry_long : (format : Format) (order : Order) (pairs : List Pair) (entry : Entry) (bytes : List ℕ) → BeginsWithPath pairs
    → EntryBytes format order pairs entry bytes → 0 < length bytes
entry_long format order pairs entry bytes b p = grind (arith, common_steps, path_first, length-append)

-- no entry begins with a zero byte
pub zero_begins : (more rest : List ℕ) → 0 ∷ more ≡ rest → BeginsEntry rest → ⊥
zero_begins more rest e b = grind (arith, common_steps)

-- the first byte of what is read is that of what is left
same_first : (x rest : List ℕ) (first : ℕ) (more : List ℕ) → 0 < length x → x ++ rest ≡ first ∷ more → (past : List ℕ) × (x ≡ first ∷ past)
same_first [] rest first more some e = absurd (omega (arith, some))
same_first (b ∷ x) rest first more some e = (x, cc)

pub one_listed : (format : Format) (pairs : List Pair) (entry : Entry) (old new : At) → BeginsWithPath pairs → BeginsEntry old.rest
    → Reads (EntryBytes format old.order pairs) entry old new → Reads (ListedBytes format old.order pairs) entry old new
one_listed format pairs entry old new path begins r = grind (arith, common_steps, same_first, entry_long)

-- So many entries were read.
pub record ListedSoFar (format : Format) (pairs : List Pair) (count : ℕ) (old now : At) : Type 0 where
  pub entries : List Entry
  pub count_is : length entries ≡ count
  pub few : count ≤ length old.rest
  pub shorter : count + length now.rest ≤ length old.rest
  pub read : Reads (Each (ListedBytes format old.order pairs)) entries old now

pub none_listed : (format : Format) (pairs : List Pair) (at : At) → ListedSoFar format pairs 0 at at
none_listed format pairs at = grind (arith, common_steps, reads_none)

pub one_more_listed : (format : Format) (pairs : List Pair) (count : ℕ) (HasKept : List FormValue → Type 0) (old middle new : At)
    → BeginsWithPath pairs → ListedSoFar format pairs count old middle → BeginsEntry middle.rest
    → KeepsEntry format pairs HasKept middle new → ListedSoFar format pairs (count + 1) old new
one_more_listed format pairs count HasKept old middle new path so_far begins p =
    let long = entry_long format middle.order pairs (entry_of p.values) p.read.spelling path p.read.spelled in
    let size : length middle.rest ≡ length p.read.spelling + length new.rest =
    ap length p.read.whole ∙ length-append p.read.spelling new.rest in
    record {
      entries = so_far.entries ++ entry_of p.values ∷ [];
      count_is = length-append so_far.entries (entry_of p.values ∷ []) ∙ omega (arith, so_far.count_is);
      few = omega (arith, so_far.shorter, size, long);
      shorter = omega (arith, so_far.shorter, size, long);
      read = reads_more (λ order. ListedBytes format order pairs) so_far.entries (entry_of p.values) old middle new so_far.read
          (one_listed format pairs (entry_of p.values) middle new path begins p.read);
    }

-- an entry has a byte, so the walk ends
pub list_shorter : (format : Format) (pairs : List Pair) (HasKept : List FormValue → Type 0) (old new : At) → BeginsWithPath pairs
    → KeepsEntry format pairs HasKept old new → length new.rest < length old.rest
list_shorter format pairs HasKept old new path p = grind (arith, common_steps, entry_long, length-append)

-- the byte that ends a list is zero
zero_read : (order : Order) (n : ℕ) (bytes rest whole : List ℕ) → NumberBytes order 1 n bytes → whole ≡ bytes ++ rest
    → (BeginsEntry whole → ⊥) → bytes ≡ 0 ∷ []
zero_read order n bytes rest whole p e none = grind (arith, common_steps, one_digit)

pub list_ended : (format : Format) (pairs : List Pair) (count n : ℕ) (bytes all left : List ℕ) (old middle new : At)
    → ListedSoFar format pairs count old middle → (BeginsEntry middle.rest → ⊥) → Reads (NumberBytes middle.order 1) n middle new
    → all ≡ old.rest → left ≡ middle.rest → bytes ≡ take (length all - length left) all → PassesList format pairs count bytes old new
list_ended format pairs count n bytes all left old middle new so_far none r all_is left_is bytes_are =
    let q = so_far.read in
    let prefix = prefix_taken q.spelling (all_is ∙ q.whole) left_is bytes_are in
    let ended = zero_read middle.order n r.spelling new.rest middle.rest r.spelled r.whole none in
    record {
      entries = so_far.entries;
      count_is = so_far.count_is;
      each = rw prefix q.spelled;
      read = record {
        spelling = q.spelling ++ r.spelling;
        spelled = record { prefix = q.spelling; back = r.spelling; first = q.spelled; second = ended; joined = refl };
        whole = simp (q.whole, r.whole, append_assoc);
        place = omega (arith, r.place, q.place, length-append q.spelling r.spelling);
        order = r.order ∙ q.order;
      };
      joined = simp (q.whole, r.whole, ended, prefix, append_assoc);
    }

-- what the walk cites
pub ruleset list_walk = (none_listed, one_more_listed, list_shorter, list_ended)
