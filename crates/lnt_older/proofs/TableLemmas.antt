-- The tables of version 5 that say what the lists of an older unit say.
use Rattle.std.proofs.Common.{◌≡◌, ◌≢◌, ℕ, ◌+◌, ◌*◌, ◌-◌, ◌<◌, ◌≤◌, List, [], ◌∷◌, ◌++◌, length, take, refl, sym, ap, subst, ◌∙◌}
use Rattle.std.proofs.Common.{append_assoc, arith, length-append, append-nil}
use Rattle.lnt_wire.specs.Reading.{At}
use Rattle.lnt_wire.specs.Bytes.{NoneSpelled}
use Rattle.lnt_wire.specs.FormBytes.{form_code, HasNoZero}
use Rattle.lnt_wire.specs.Leb128.{UnsignedLeb}
use Rattle.lnt_wire.specs.declared.form.Form.TheVariants as forms
use Rattle.lnt_wire.specs.declared.form.FormValue.{FormValue}
use Rattle.lnt_wire.specs.declared.form.FormValue.TheVariants.{Text}
use Rattle.lnt_wire.specs.declared.format.Format.{Format}
use Rattle.lnt_wire.specs.declared.format.Order.{Order}
use Rattle.lnt_header.specs.Joins.{Each}
use Rattle.lnt_header.specs.declared.header.Entry.{Entry}
use Rattle.lnt_header.specs.declared.header.Pair.{Pair}
use Rattle.lnt_header_bytes.specs.Borrowed.{entry_of}
use Rattle.lnt_header_bytes.specs.Stepping.{KeepsEntry}
use Rattle.lnt_header_bytes.specs.TableBytes.{PairBytes, EntryBytes, TableBytes}
use Rattle.lnt_header_bytes.proofs.TableLaws.{entry_code}
use Rattle.lnt_older.specs.Lists.{BeginsWithPath}
use Rattle.lnt_older.specs.OlderBytes.{BeginsEntry, directory_pairs, file_pairs, ListedBytes}
use Rattle.lnt_older.specs.Upgraded.{CountedTable, HasFiles, IsCountFromZero, IsFileZero}
use Rattle.lnt_header_bytes.proofs.Prefixes.{prefix_taken}
use Rattle.lnt_older.proofs.ListLemmas.{path_first, zero_begins}
use Rattle.std.proofs.lemmas.Grind.{common_steps}

-- ---- tables

-- a number below 128 is its own spelling
pub one_byte_leb : (n : ℕ) → n < 128 → UnsignedLeb n (n ∷ [])
one_byte_leb n lt = record { shape = lt; value = omega (arith, lt); fits = omega (arith, lt) }

pair_spelled : (content code : ℕ) (pair : Pair) → pair.content ≡ content → form_code pair.form ≡ code → content < 128 → code < 128
    → PairBytes pair (content ∷ code ∷ [])
pair_spelled content code pair content_is code_is lt lu = record {
  prefix = content ∷ [];
  back = code ∷ [];
  first = rw content_is (one_byte_leb content lt);
  second = rw code_is (one_byte_leb code lu);
  joined = refl;
}

pub one_pair : Each PairBytes directory_pairs (1 ∷ 8 ∷ [])
one_pair = record {
  prefix = 1 ∷ 8 ∷ [];
  back = [];
  first = pair_spelled 1 8 (record { content = 1; form = forms.Text }) refl refl (omega arith) (omega arith);
  second = refl;
  joined = refl;
}

number_pair : (content : ℕ) → content < 128 → PairBytes (record { content = content; form = forms.Udata }) (content ∷ 15 ∷ [])
number_pair content lt = pair_spelled content 15 (record { content = content; form = forms.Udata }) refl refl lt (omega arith)

pub four_pairs : Each PairBytes file_pairs (1 ∷ 8 ∷ 2 ∷ 15 ∷ 3 ∷ 15 ∷ 4 ∷ 15 ∷ [])
four_pairs = record {
  prefix = 1 ∷ 8 ∷ [];
  back = 2 ∷ 15 ∷ 3 ∷ 15 ∷ 4 ∷ 15 ∷ [];
  first = pair_spelled 1 8 (record { content = 1; form = forms.Text }) refl refl (omega arith) (omega arith);
  second = record {
    prefix = 2 ∷ 15 ∷ [];
    back = 3 ∷ 15 ∷ 4 ∷ 15 ∷ [];
    first = number_pair 2 (omega arith);
    second = record {
      prefix = 3 ∷ 15 ∷ [];
      back = 4 ∷ 15 ∷ [];
      first = number_pair 3 (omega arith);
      second = record { prefix = 4 ∷ 15 ∷ []; back = []; first = number_pair 4 (omega arith); second = refl; joined = refl };
      joined = refl;
    };
    joined = refl;
  };
  joined = refl;
}

pub table_spelled : (format : Format) (order : Order) (pairs : List Pair) (pair_bytes entries_bytes bytes : List ℕ) (entries : List Entry)
    → length pairs < 256 → pairs ≢ [] → Each PairBytes pairs pair_bytes
    → CountedTable (length pairs ∷ pair_bytes) (length entries) entries_bytes bytes
    → Each (EntryBytes format order pairs) entries entries_bytes → TableBytes format order pairs entries bytes
table_spelled format order pairs pair_bytes entries_bytes bytes entries few some spelled table each = grind (arith, common_steps)

-- ---- entries

-- listed entries are entries
pub each_listed : (format : Format) (order : Order) (pairs : List Pair) (entries : List Entry) (bytes : List ℕ)
    → Each (ListedBytes format order pairs) entries bytes → Each (EntryBytes format order pairs) entries bytes
each_listed format order pairs [] bytes p = p
each_listed format order pairs (entry ∷ entries) bytes p = record {
  prefix = p.prefix;
  back = p.back;
  first = p.first.spelled;
  second = each_listed format order pairs entries p.back p.second;
  joined = p.joined;
}

two_bytes : (bytes : List ℕ) → BeginsEntry bytes → ((text : List ℕ) × (past : List ℕ) × (bytes ≡ text ++ 0 ∷ past)) → 2 ≤ length bytes
two_bytes bytes b h = grind (arith, common_steps, zero_begins, length-append)

-- each entry has a path that isn't empty, and the zero byte after it
pub listed_few : (format : Format) (order : Order) (pairs : List Pair) (entries : List Entry) (bytes : List ℕ) → BeginsWithPath pairs
    → Each (ListedBytes format order pairs) entries bytes → 2 * length entries ≤ length bytes
listed_few format order pairs [] bytes path p = omega arith
listed_few format order pairs (entry ∷ entries) bytes path p =
    omega (
      arith,
      listed_few format order pairs entries p.back path p.second,
      ap length p.joined,
      length-append p.prefix p.back,
      two_bytes p.prefix p.first.some (path_first format order pairs entry p.prefix path p.first.spelled),
    )

pub each_append : {X : Type 0} (P : X → List ℕ → Type 0) (us vs : List X) (x y : List ℕ) → Each P us x → Each P vs y
    → Each P (us ++ vs) (x ++ y)
each_append P [] vs x y p q = subst (Each P vs) (ap (λ (z : List ℕ). z ++ y) (sym p)) q
each_append P (u ∷ us) vs x y p q = record {
  prefix = p.prefix;
  back = p.back ++ y;
  first = p.first;
  second = each_append P us vs p.back y p.second q;
  joined = ap (λ (z : List ℕ). z ++ y) p.joined ∙ append_assoc p.prefix p.back y;
}

pub directory_spelled : (format : Format) (order : Order) (text : List ℕ) → HasNoZero text
    → EntryBytes format order directory_pairs (entry_of (Text text ∷ [])) (text ++ 0 ∷ [])
directory_spelled format order text none = grind (arith, common_steps, append-nil)

-- ---- file 0

pub none_from_zero : (count : ℕ) → count ≡ 0 → IsCountFromZero count 0
none_from_zero count is h e = grind (arith, common_steps)

pub some_from_zero : (count : ℕ) → count ≢ 0 → IsCountFromZero count (count + 1)
some_from_zero count some h e = grind (arith, common_steps)

pub no_file_zero : (format : Format) (order : Order) (count : ℕ) (listed bytes : List ℕ) → count ≡ 0 → bytes ≡ listed
    → IsFileZero format order count listed bytes
no_file_zero format order count listed bytes none same h count_is lie = grind (arith, common_steps, append-nil)

pub first_file_zero : (format : Format) (order : Order) (count : ℕ) (listed bytes left : List ℕ)
    (Kept : List FormValue → Type 0) (old new : At) → count ≢ 0 → old.rest ≡ listed → old.order ≡ order
    → KeepsEntry format file_pairs Kept old new → left ≡ new.rest
    → bytes ≡ take (length listed - length left) listed → IsFileZero format order count listed bytes
first_file_zero format order count listed bytes left Kept old new some rest_is order_is p left_is bytes_are [] count_is lie =
    absurd (some (sym count_is))
first_file_zero format order count listed bytes left Kept old new some rest_is order_is p left_is bytes_are (file ∷ files) count_is each =
    let whole : listed ≡ p.read.spelling ++ new.rest = sym rest_is ∙ p.read.whole in
    let same = (entry_code format order file_pairs).one file (entry_of p.values) each.prefix p.read.spelling each.back new.rest
    each.first.spelled (subst (λ (o : Order). EntryBytes format o file_pairs (entry_of p.values) p.read.spelling) order_is p.read.spelled)
    (sym each.joined ∙ whole) in
    let here : bytes ≡ each.prefix = prefix_taken p.read.spelling whole left_is bytes_are ∙ sym same.1 in
    record {
      others = each.back;
      joined = rw here each.joined;
      spelled = record {
        prefix = each.prefix;
        back = [];
        first = each.first.spelled;
        second = refl;
        joined = here ∙ sym (append-nil each.prefix);
      };
    }

pub first_file_there : (format : Format) (order : Order) (count : ℕ) (listed : List ℕ) (old : At) → HasFiles format order count listed
    → count ≢ 0 → old.rest ≡ listed → old.order ≡ order → NoneSpelled (EntryBytes format old.order file_pairs) old.rest → ⊥
first_file_there format order count listed old has some rest_is order_is none = at has.files has.count_is has.lie
  where
    at : (files : List Entry) → length files ≡ count → Each (ListedBytes format order file_pairs) files listed → ⊥
    at [] count_is lie = some (sym count_is)
    at (file ∷ files) count_is each =
        none file each.prefix each.back (subst (λ (o : Order). EntryBytes format o file_pairs file each.prefix) (sym order_is)
        each.first.spelled) (sym each.joined ∙ sym rest_is)
