-- Tables: what is read and refused, and that their first fault is one. Crates above cite these.
use Rattle.std.proofs.Common.{◌≡◌, ℕ, ◌+◌, ◌<◌, List, [], ◌∷◌, ◌++◌, length, take, drop, get_or, refl, sym, ap, subst, ◌∙◌, append_assoc}
use Rattle.std.proofs.Common.{arith}
use Rattle.std.proofs.lemmas.List.{append-nil, drop_more, length-append, take-append-drop}
use Rattle.lnt_wire.specs.Reading.{At, Reads, RefusesField, Refuses, IsCutShort}
use Rattle.lnt_wire.specs.Bytes.{NoneSpelled, IsCode}
use Rattle.lnt_wire.specs.FormBytes.{form_code, IsUnknownForm, ValueBytes}
use Rattle.lnt_wire.specs.FormFaults.{IsValueFault}
use Rattle.lnt_wire.specs.Leb128.{UnsignedLeb, IsLargeUnsigned, IsLebFault}
use Rattle.lnt_wire.specs.Numbers.{NumberBytes}
use Rattle.lnt_wire.specs.declared.fault.Fault.{Fault}
use Rattle.lnt_wire.specs.declared.fault.Reason.{Reason}
use Rattle.lnt_wire.specs.declared.fault.Reason.TheVariants.{UnknownForm, EmptyFormat}
use Rattle.lnt_wire.specs.declared.form.Form.{Form}
use Rattle.lnt_wire.specs.declared.form.FormValue.{FormValue}
use Rattle.lnt_wire.specs.declared.form.FormValue.TheVariants.{Udata}
use Rattle.lnt_wire.specs.declared.format.Format.{Format}
use Rattle.lnt_wire.specs.declared.format.Order.{Order}
use Rattle.lnt_wire.proofs.CodeLaws.{number_code, unsigned_code}
use Rattle.lnt_wire.proofs.FieldFaultLaws.{number_fault, unsigned_fault, value_fault}
use Rattle.lnt_wire.proofs.LengthLaws.{width_1}
use Rattle.lnt_wire.proofs.ValueLaws.{same_value}
use Rattle.lnt_header.specs.declared.header.Entry.{Entry}
use Rattle.lnt_header.specs.declared.header.Pair.{Pair}
use Rattle.lnt_header.specs.FieldFaults.{FirstOf}
use Rattle.lnt_header.specs.FieldFaults.FirstOf.{first, second}
use Rattle.lnt_header.specs.FieldFaults.FirstOfSeveral.{next}
use Rattle.lnt_header.specs.Joins.{Both, Several, Each}
use Rattle.lnt_header.proofs.ByteLaws.{one_digit}
use Rattle.lnt_header.proofs.FirstFaultLaws.{AreOne, fault_as, fault_of_part, field_fault, IsHere, first_of, first_one, IsOneFault}
use Rattle.lnt_header.proofs.FirstFaultLaws.{several_of}
use Rattle.lnt_header.proofs.ListLaws.{several_code}
use Rattle.lnt_header.proofs.ReaderLaws.{none_first, none_second, refuses_map, reads_map, reads_both, first_refused}
use Rattle.lnt_header.proofs.ReaderLaws.{second_refused, several_refused, reads_more}
use Rattle.lnt_header_bytes.specs.Stepping.{ReadsNext}
use Rattle.lnt_header_bytes.specs.TableBytes.{EntryBytes, PairBytes, TableOf, ValuesBytes}
use Rattle.lnt_header_bytes.specs.TableFaults.{AfterCountFault, AfterPairsFault, IsCodeFault, IsCountFault, IsEntriesFault, IsEntryFault}
use Rattle.lnt_header_bytes.specs.TableFaults.{IsNumberFault, IsPairFault, IsPairsFault, IsSizeFault, IsTableFault}
use Rattle.lnt_header_bytes.specs.TableFaults.IsCodeFault.{no_code, unknown}
use Rattle.lnt_header_bytes.specs.TableFaults.IsEntryFault.{no_value}
use Rattle.lnt_header_bytes.specs.TableFaults.IsSizeFault.{no_size, empty}
use Rattle.lnt_header_bytes.proofs.FaultLaws.{so_after, so_here}
use Rattle.lnt_header_bytes.proofs.TableLaws.{entry_code, pair_code, parts_as}
use Rattle.std.proofs.lemmas.Grind.{common_steps}

number_at : IsOneFault UnsignedLeb IsNumberFault
number_at = field_fault UnsignedLeb (IsLebFault IsLargeUnsigned) unsigned_fault

-- ---- pairs

abbrev CodeBytes : Form → List ℕ → Type 0
CodeBytes form bytes = UnsignedLeb (form_code form) bytes

code_none : (reason : Reason) (before left : List ℕ) → IsCodeFault reason before left → NoneSpelled CodeBytes (before ++ left)
code_none reason before left (no_code h) form x more p e = number_at.none reason before left h (form_code form) x more p e
code_none reason before left (unknown code y rest is nothing q joined other) form x more p e =
    other form (unsigned_code.one (form_code form) code x y more rest p q (e ∙ ap (λ (z : List ℕ). z ++ left) nothing ∙ joined)).0

code_one : AreOne IsCodeFault
code_one reason other before before' left left' (no_code h) (no_code k) e = number_at.one reason other before before' left left' h k e
code_one reason other before before' left left' (no_code h) (unknown code y rest is nothing q joined no_form) e =
    absurd (number_at.none reason before left h code y rest q (sym (e ∙ ap (λ (z : List ℕ). z ++ left') nothing ∙ joined)))
code_one reason other before before' left left' (unknown code y rest is nothing q joined no_form) (no_code k) e =
    absurd (number_at.none other before' left' k code y rest q (sym (sym e ∙ ap (λ (z : List ℕ). z ++ left) nothing ∙ joined)))
code_one reason other before before' left left' (unknown code y rest is nothing q joined no_form)
    (unknown code' y' rest' is' nothing' q' joined' no_form') e =
    let all : y ++ rest ≡ y' ++ rest' =
    sym (ap (λ (z : List ℕ). z ++ left) nothing ∙ joined) ∙ e ∙ ap (λ (z : List ℕ). z ++ left') nothing' ∙ joined' in
    let codes = unsigned_code.one code code' y y' rest rest' q q' all in
    (is ∙ ap UnknownForm codes.0 ∙ sym is', nothing ∙ sym nothing')

code_fault : IsOneFault CodeBytes IsCodeFault
code_fault = record { none = code_none; one = code_one }

pair_fault : IsOneFault PairBytes IsPairFault
pair_fault = fault_of_part (Both UnsignedLeb (λ _. CodeBytes)) PairBytes IsPairFault (λ pair. (pair.content, pair.form)) (λ pair x p. p)
    (first_of UnsignedLeb IsNumberFault (λ _. IsCodeFault) unsigned_code (λ _. CodeBytes) number_at (λ _. code_fault))

pairs_fault : (count : ℕ) → IsOneFault (Several count PairBytes) (IsPairsFault count)
pairs_fault count = several_of PairBytes IsPairFault pair_code pair_fault count

pub reads_pair : (old middle new : At) (content code : ℕ) (pair : Pair) → Reads UnsignedLeb content old middle
    → Reads UnsignedLeb code middle new → pair.content ≡ content → form_code pair.form ≡ code → Reads PairBytes pair old new
reads_pair old middle new content code pair r s content_is code_is =
    reads_map (Both UnsignedLeb (λ _. UnsignedLeb)) PairBytes (content, code) pair old new
    (λ x p. parts_as p (subst (λ (k : ℕ). UnsignedLeb k p.prefix) (sym content_is) p.first)
    (subst (λ (k : ℕ). UnsignedLeb k p.back) (sym code_is) p.second))
    (reads_both UnsignedLeb (λ _ _. UnsignedLeb) content code old middle new r s)

pub refuses_pair_content : (old : At) (fault : Fault) → RefusesField (IsLebFault IsLargeUnsigned) UnsignedLeb old fault
    → Refuses IsPairFault PairBytes old fault
refuses_pair_content old fault r = so_here pair_fault old fault fault.reason r.place refl (first (refl, r.reason))

pub refuses_pair_form : (old middle : At) (content : ℕ) (fault : Fault) → Reads UnsignedLeb content old middle
    → RefusesField (IsLebFault IsLargeUnsigned) UnsignedLeb middle fault → Refuses IsPairFault PairBytes old fault
refuses_pair_form old middle content fault r s = so_after pair_fault old fault r s.place
    (second content r.spelling [] r.spelled (sym (append-nil r.spelling)) (no_code (refl, s.reason)))

pub refuses_unknown : (old middle after : At) (content code : ℕ) (fault : Fault) → Reads UnsignedLeb content old middle
    → Reads UnsignedLeb code middle after → IsUnknownForm code
    → fault.place ≡ middle.place → fault.reason ≡ UnknownForm code → Refuses IsPairFault PairBytes old fault
refuses_unknown old middle after content code fault r s unknown_form place reason = so_after pair_fault old fault r place
    (second content r.spelling [] r.spelled (sym (append-nil r.spelling))
    (unknown code s.spelling after.rest reason refl s.spelled s.whole unknown_form))

-- one more of the values that were read
pub one_more : {X : Type 0} (P : Order → X → List ℕ → Type 0) (before after : List X) (old middle new : At)
    → Reads (Each (P old.order)) before old middle
    → ReadsNext (P middle.order) before after middle new → (length after ≡ length before + 1) × Reads (Each (P old.order)) after old new
one_more P before after old middle new r s =
    rw s.added (length-append before (s.value ∷ []), reads_more P before s.value old middle new r s.read)

pub refuses_pairs : (n : ℕ) (pairs : List Pair) (old middle : At) (fault : Fault) → Reads (Each PairBytes) pairs old middle
    → length pairs < n → Refuses IsPairFault PairBytes middle fault → Refuses (IsPairsFault n) (Several n PairBytes) old fault
refuses_pairs n pairs old middle fault r lt s =
    several_refused (λ _. IsPairFault) (λ _. PairBytes) n pairs old middle fault pair_code r lt s

-- ---- entries

-- an entry's fault by its pairs, one after another
module _ (format : Format) (order : Order) where
  abbrev IsChainFault : List Pair → Reason → List ℕ → List ℕ → Type 0
  IsChainFault [] reason before left = ⊥
  IsChainFault (pair ∷ pairs) reason before left =
      FirstOf (ValueBytes format order pair.form) (IsHere (IsValueFault format order pair.form)) (λ _. IsChainFault pairs) reason before
      left

  value_code : (form : Form) → IsCode (ValueBytes format order form)
  value_code form = grind (arith, common_steps, same_value)

  abbrev parted : List FormValue → FormValue × List FormValue
  parted [] = (Udata 0, [])
  parted (v ∷ vs) = (v, vs)

  of_values : (pair : Pair) (pairs : List Pair) (vs : List FormValue) (x : List ℕ) → ValuesBytes format order (pair ∷ pairs) vs x
      → Both (ValueBytes format order pair.form) (λ _. ValuesBytes format order pairs) (parted vs) x
  of_values pair pairs [] x p = absurd p
  of_values pair pairs (v ∷ vs) x p = parts_as p.1 (record { form_is = p.0; spelled = p.1.first }) p.1.second

  chain_fault : (pairs : List Pair) → IsOneFault (ValuesBytes format order pairs) (IsChainFault pairs)
  chain_fault [] =
      record { none = λ reason before left h. absurd h; one = λ reason other before before' left left' h k e. absurd h }
  chain_fault (pair ∷ pairs) =
      let Value = ValueBytes format order pair.form in
      let so = IsValueFault format order pair.form in
      fault_of_part (Both Value (λ _. ValuesBytes format order pairs)) (ValuesBytes format order (pair ∷ pairs))
      (IsChainFault (pair ∷ pairs)) parted (of_values pair pairs)
      (first_of Value (IsHere so) (λ _. IsChainFault pairs) (value_code pair.form) (λ _. ValuesBytes format order pairs)
      (field_fault Value so (value_fault format order pair.form)) (λ _. chain_fault pairs))

  chain_of : (done : List Pair) (pair : Pair) (past : List Pair) (values : List FormValue) (reason : Reason) (before left : List ℕ)
      → ValuesBytes format order done values before → IsValueFault format order pair.form reason left
      → IsChainFault (done ++ pair ∷ past) reason before left
  chain_of [] pair past [] reason before left p h = first (p, h)
  chain_of [] pair past (v ∷ vs) reason before left p h = absurd p
  chain_of (d ∷ done) pair past [] reason before left p h = absurd p
  chain_of (d ∷ done) pair past (v ∷ vs) reason before left p h =
      second v p.1.prefix p.1.back (record { form_is = p.0; spelled = p.1.first }) p.1.joined
      (chain_of done pair past vs reason p.1.back left p.1.second h)

  entry_chain : (pairs : List Pair) (reason : Reason) (before left : List ℕ) → IsEntryFault format order pairs reason before left
      → IsChainFault pairs reason before left
  entry_chain pairs reason before left (no_value done pair past values is p h) =
      subst (λ (ps : List Pair). IsChainFault ps reason before left) (sym is) (chain_of done pair past values reason before left p h)

values_fault : (format : Format) (order : Order) (pairs : List Pair)
    → IsOneFault (ValuesBytes format order pairs) (IsEntryFault format order pairs)
values_fault format order pairs =
    fault_as (ValuesBytes format order pairs) (IsChainFault format order pairs) (IsEntryFault format order pairs)
    (entry_chain format order pairs) (chain_fault format order pairs)

pub entry_fault : (format : Format) (order : Order) (pairs : List Pair)
    → IsOneFault (EntryBytes format order pairs) (IsEntryFault format order pairs)
entry_fault format order pairs = fault_of_part (ValuesBytes format order pairs) (EntryBytes format order pairs)
    (IsEntryFault format order pairs) (λ entry. entry.values) (λ entry x p. p) (values_fault format order pairs)

entries_fault : (format : Format) (order : Order) (pairs : List Pair) (count : ℕ)
    → IsOneFault (Several count (EntryBytes format order pairs)) (IsEntriesFault format order pairs count)
entries_fault format order pairs count =
    several_of (EntryBytes format order pairs) (IsEntryFault format order pairs) (entry_code format order pairs)
    (entry_fault format order pairs) count

pub refuses_entries : (format : Format) (pairs : List Pair) (n : ℕ) (entries : List Entry) (old middle : At) (fault : Fault)
    → Reads (Each (EntryBytes format old.order pairs)) entries old middle → length entries < n
    → Refuses (IsEntryFault format middle.order pairs) (EntryBytes format middle.order pairs) middle fault
    → Refuses (IsEntriesFault format old.order pairs n) (Several n (EntryBytes format old.order pairs)) old fault
refuses_entries format pairs n entries old middle fault r lt s = several_refused (λ order. IsEntryFault format order pairs)
    (λ order. EntryBytes format order pairs) n entries old middle fault (entry_code format old.order pairs) r lt s

pub refuses_values : (format : Format) (pairs : List Pair) (pair : Pair) (past : List Pair) (values : List FormValue) (old middle : At)
    (fault : Fault) → Reads (ValuesBytes format old.order pairs) values old middle
    → RefusesField (IsValueFault format middle.order pair.form) (ValueBytes format middle.order pair.form) middle fault
    → Refuses (IsEntryFault format old.order (pairs ++ pair ∷ past)) (ValuesBytes format old.order (pairs ++ pair ∷ past)) old fault
refuses_values format pairs pair past values old middle fault r s =
    let so : IsValueFault format old.order pair.form fault.reason middle.rest =
    subst (λ (o : Order). IsValueFault format o pair.form fault.reason middle.rest) r.order s.reason in
    so_after (values_fault format old.order (pairs ++ pair ∷ past)) old fault r s.place (no_value pairs pair past values refl r.spelled so)

pub refuses_values_at : (format : Format) (pairs : List Pair) (i : ℕ) (d : Pair) (values : List FormValue) (old middle : At) (fault : Fault)
    → i < length pairs → Reads (ValuesBytes format old.order (take i pairs)) values old middle
    → RefusesField (IsValueFault format middle.order (get_or pairs i d).form) (ValueBytes format middle.order (get_or pairs i d).form)
    middle fault → Refuses (IsEntryFault format old.order pairs) (ValuesBytes format old.order pairs) old fault
refuses_values_at format pairs i d values old middle fault lt r s =
    let whole : take i pairs ++ get_or pairs i d ∷ drop (i + 1) pairs ≡ pairs =
    ap (λ (ps : List Pair). take i pairs ++ ps) (sym (drop_more pairs i d lt)) ∙ take-append-drop i pairs in
    subst (λ (ps : List Pair). Refuses (IsEntryFault format old.order ps) (ValuesBytes format old.order ps) old fault) whole
    (refuses_values format (take i pairs) (get_or pairs i d) (drop (i + 1) pairs) values old middle fault r s)

pub entry_refused : (format : Format) (pairs : List Pair) (old : At) (fault : Fault)
    → Refuses (IsEntryFault format old.order pairs) (ValuesBytes format old.order pairs) old fault
    → Refuses (IsEntryFault format old.order pairs) (EntryBytes format old.order pairs) old fault
entry_refused format pairs old fault r =
    refuses_map (ValuesBytes format old.order pairs) (EntryBytes format old.order pairs) (λ entry. entry.values) old fault (λ y x q. q) r

-- ---- the number of entries, and the entries

abbrev EntriesOf : Format → Order → List Pair → ℕ → List Entry → List ℕ → Type 0
EntriesOf format order pairs n entries bytes = (pairs ≡ [] → n ≡ 0) × Several n (EntryBytes format order pairs) entries bytes

abbrev SizeOn : Format → Order → List Pair → ℕ × List Entry → List ℕ → Type 0
SizeOn format order pairs v bytes = Both UnsignedLeb (EntriesOf format order pairs) v bytes

size_one : (pairs : List Pair) → AreOne (IsSizeFault pairs)
size_one pairs reason other before before' left left' (no_size h) (no_size k) e = number_at.one reason other before before' left left' h k e
size_one pairs reason other before before' left left' (no_size h) (empty n y rest is nothing none q joined some) e =
    absurd (number_at.none reason before left h n y rest q (sym (e ∙ ap (λ (z : List ℕ). z ++ left') nothing ∙ joined)))
size_one pairs reason other before before' left left' (empty n y rest is nothing none q joined some) (no_size k) e =
    absurd (number_at.none other before' left' k n y rest q (sym (sym e ∙ ap (λ (z : List ℕ). z ++ left) nothing ∙ joined)))
size_one pairs reason other before before' left left' (empty n y rest is nothing none q joined some)
    (empty n' y' rest' is' nothing' none' q' joined' some') e = (is ∙ sym is', nothing ∙ sym nothing')

-- without pairs no entry has a fault
some_pairs : (format : Format) (order : Order) (pairs : List Pair) (n : ℕ) (reason : Reason) (before left : List ℕ)
    → IsEntriesFault format order pairs n reason before left → pairs ≡ [] → ⊥
some_pairs format order pairs n reason before left (next entries prefix past lt each joined (no_value done pair later values is p h)) none =
    omega (arith, ap length is, ap length none, length-append done (pair ∷ later))

sized_one : (format : Format) (order : Order) (pairs : List Pair) → AreOne (AfterPairsFault format order pairs)
sized_one format order pairs = first_one UnsignedLeb (IsSizeFault pairs) (IsEntriesFault format order pairs) unsigned_code (size_one pairs)
    (λ reason other n before left prefix past left' h p k e. elim h [
      | no_size missing ↦ number_at.none reason before left missing n prefix (past ++ left') p (sym e)
      | empty m y rest is nothing none q joined some ↦ some_pairs format order pairs n other past left' k none
    ]) (λ n. (entries_fault format order pairs n).one)

sized_none : (format : Format) (order : Order) (pairs : List Pair) (reason : Reason) (before left : List ℕ)
    → AfterPairsFault format order pairs reason before left → NoneSpelled (SizeOn format order pairs) (before ++ left)
sized_none format order pairs reason before left (first (no_size h)) =
    none_first UnsignedLeb (EntriesOf format order pairs) (before ++ left) (number_at.none reason before left h)
sized_none format order pairs reason before left (first (empty n y rest is nothing none q joined some)) =
    none_second UnsignedLeb (EntriesOf format order pairs) unsigned_code n y (before ++ left) rest q
    (ap (λ (z : List ℕ). z ++ left) nothing ∙ joined) (λ entries x more p e. omega (arith, some, p.0 none))
sized_none format order pairs reason before left (second n prefix past p joined h) =
    none_second UnsignedLeb (EntriesOf format order pairs) unsigned_code n prefix (before ++ left) (past ++ left) p
    (ap (λ (z : List ℕ). z ++ left) joined ∙ append_assoc prefix past left)
    (λ entries x more q e. (entries_fault format order pairs n).none reason past left h entries x more q.1 e)

sized_fault : (format : Format) (order : Order) (pairs : List Pair)
    → IsOneFault (SizeOn format order pairs) (AfterPairsFault format order pairs)
sized_fault format order pairs = record { none = sized_none format order pairs; one = sized_one format order pairs }

-- ---- tables

abbrev KindsOn : Format → Order → ℕ → List Pair × (ℕ × List Entry) → List ℕ → Type 0
KindsOn format order n v bytes = Both (Several n PairBytes) (SizeOn format order) v bytes

abbrev CountOn : Format → Order → ℕ × (List Pair × (ℕ × List Entry)) → List ℕ → Type 0
CountOn format order v bytes = Both (NumberBytes order 1) (KindsOn format order) v bytes

kinds_fault : (format : Format) (order : Order) (n : ℕ) → IsOneFault (KindsOn format order n) (AfterCountFault format order n)
kinds_fault format order n =
    first_of (Several n PairBytes) (IsPairsFault n) (AfterPairsFault format order) (several_code PairBytes n pair_code)
    (SizeOn format order) (pairs_fault n) (sized_fault format order)

table_part : List Pair × List Entry → ℕ × (List Pair × (ℕ × List Entry))
table_part t = (length t.0, (t.0, (length t.1, t.1)))

of_table : (format : Format) (order : Order) (t : List Pair × List Entry) (x : List ℕ) → TableOf format order t x
    → CountOn format order (table_part t) x
unfolding table_part
of_table format order t x p =
    let p1 = p.spelled in
    let p2 = p1.second in
    let p3 = p2.second in
    parts_as p1 (record { fits = p.few_pairs; spelled = p1.first ∙ sym (one_digit order (length t.0) p.few_pairs) })
    (parts_as p2 (refl, p2.first) (parts_as p3 p3.first (λ none. ap length (p.none_without_pairs none), (refl, p3.second))))

pub empty_list : {X : Type 0} (xs : List X) → length xs ≡ 0 → xs ≡ []
empty_list [] e = refl
empty_list (x ∷ xs) e = absurd (omega arith)

to_table : (format : Format) (order : Order) (n m : ℕ) (pairs : List Pair) (entries : List Entry) (x : List ℕ)
    → CountOn format order (n, (pairs, (m, entries))) x → TableOf format order (pairs, entries) x
to_table format order n m pairs entries x p = grind (arith, common_steps, empty_list, parts_as, one_digit)

count_at : (order : Order) → IsOneFault (NumberBytes order 1) IsCountFault
count_at order = field_fault (NumberBytes order 1) (IsCutShort 1) (number_fault order 1)

pub table_fault : (format : Format) (order : Order) → IsOneFault (TableOf format order) (IsTableFault format order)
table_fault format order =
    fault_of_part (CountOn format order) (TableOf format order) (IsTableFault format order) table_part (of_table format order)
    (first_of (NumberBytes order 1) IsCountFault (AfterCountFault format order) (number_code order 1 width_1) (KindsOn format order)
    (count_at order) (kinds_fault format order))

refused : (format : Format) (old : At) (fault : Fault) → Refuses (IsTableFault format old.order) (CountOn format old.order) old fault
    → Refuses (IsTableFault format old.order) (TableOf format old.order) old fault
refused format old fault r =
    refuses_map (CountOn format old.order) (TableOf format old.order) table_part old fault (of_table format old.order) r

pub refuses_count : (format : Format) (old : At) (fault : Fault) → RefusesField (IsCutShort 1) (NumberBytes old.order 1) old fault
    → Refuses (IsTableFault format old.order) (TableOf format old.order) old fault
refuses_count format old fault r = so_here (table_fault format old.order) old fault fault.reason r.place refl (first (refl, r.reason))

module _ (format : Format) (n : ℕ) (old m1 : At) (r : Reads (NumberBytes old.order 1) n old m1) where
  after_count : (fault : Fault) → Refuses (AfterCountFault format m1.order n) (KindsOn format m1.order n) m1 fault
      → Refuses (IsTableFault format old.order) (TableOf format old.order) old fault
  after_count fault s =
      refused format old fault (second_refused (AfterCountFault format) (NumberBytes old.order 1) (KindsOn format) n old m1 fault
      (number_code old.order 1 width_1) r s)

  pub refuses_kinds : (fault : Fault) → Refuses (IsPairsFault n) (Several n PairBytes) m1 fault
      → Refuses (IsTableFault format old.order) (TableOf format old.order) old fault
  refuses_kinds fault s = after_count fault (first_refused (Several n PairBytes) (SizeOn format m1.order) m1 fault s)

module _ (format : Format) (n : ℕ) (pairs : List Pair) (old m1 m2 : At) (r : Reads (NumberBytes old.order 1) n old m1)
    (s : Reads (Several n PairBytes) pairs m1 m2) where
  after_kinds : (fault : Fault) → Refuses (AfterPairsFault format m2.order pairs) (SizeOn format m2.order pairs) m2 fault
      → Refuses (IsTableFault format old.order) (TableOf format old.order) old fault
  after_kinds fault t =
      after_count format n old m1 r fault (second_refused (AfterPairsFault format) (Several n PairBytes) (SizeOn format) pairs m1 m2 fault
      (several_code PairBytes n pair_code) s t)

  pub refuses_size : (fault : Fault) → RefusesField (IsLebFault IsLargeUnsigned) UnsignedLeb m2 fault
      → Refuses (IsTableFault format old.order) (TableOf format old.order) old fault
  refuses_size fault t =
      after_kinds fault (so_here (sized_fault format m2.order pairs) m2 fault fault.reason t.place refl (first (no_size (refl, t.reason))))

  pub refuses_rest : (size : ℕ) (m3 : At) (fault : Fault) → Reads UnsignedLeb size m2 m3
      → Refuses (IsEntriesFault format m3.order pairs size) (Several size (EntryBytes format m3.order pairs)) m3 fault
      → Refuses (IsTableFault format old.order) (TableOf format old.order) old fault
  refuses_rest size m3 fault t u = after_kinds fault
      (second_refused (λ order. IsEntriesFault format order pairs) UnsignedLeb (λ order. EntriesOf format order pairs) size m2 m3 fault
      unsigned_code t (refuses_map (Several size (EntryBytes format m3.order pairs)) (EntriesOf format m3.order pairs size) (λ es. es) m3
      fault (λ y x p. p.1) u))

  pub refuses_empty : (size : ℕ) (m3 : At) (fault : Fault) → Reads UnsignedLeb size m2 m3 → n ≡ 0 → 0 < size → fault.place ≡ m2.place
      → fault.reason ≡ EmptyFormat → Refuses (IsTableFault format old.order) (TableOf format old.order) old fault
  refuses_empty size m3 fault t zero_pairs some place reason =
      let none : pairs ≡ [] = empty_list pairs (s.spelled.0 ∙ zero_pairs) in
      after_kinds fault (so_here (sized_fault format m2.order pairs) m2 fault EmptyFormat place reason
      (first (empty size t.spelling m3.rest refl refl none t.spelled t.whole some)))

  pub reads_table : (size : ℕ) (entries : List Entry) (m3 new : At) → Reads UnsignedLeb size m2 m3 → (n ≡ 0 → size ≡ 0)
      → Reads (Several size (EntryBytes format m3.order pairs)) entries m3 new → Reads (TableOf format old.order) (pairs, entries) old new
  reads_table size entries m3 new t none u =
      let none_without : pairs ≡ [] → size ≡ 0 = λ e. none (sym s.spelled.0 ∙ ap length e) in
      let last = reads_map (Several size (EntryBytes format m3.order pairs)) (EntriesOf format m3.order pairs size) entries entries m3 new
      (λ x p. (none_without, p)) u in
      let third = reads_both UnsignedLeb (λ order. EntriesOf format order pairs) size entries m2 m3 new t last in
      let second = reads_both (Several n PairBytes) (SizeOn format) pairs (size, entries) m1 m2 new s third in
      let whole = reads_both (NumberBytes old.order 1) (KindsOn format) n (pairs, (size, entries)) old m1 new r second in
      reads_map (CountOn format old.order) (TableOf format old.order) (n, (pairs, (size, entries))) (pairs, entries) old new
      (to_table format old.order n size pairs entries) whole

-- The lemmas of `read_pair`.
pub ruleset read_pair_lemmas = (reads_pair, refuses_pair_content, refuses_pair_form, refuses_unknown)
