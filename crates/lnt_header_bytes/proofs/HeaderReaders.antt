-- The fields that header_length counts: what is read and refused, and that their first fault is one. Crates above cite these.
use Rattle.std.proofs.Common.{◌≡◌, ◌≢◌, ℕ, suc, ◌+◌, ◌-◌, ◌<◌, ◌≤◌, List, [], ◌∷◌, ◌++◌, length, take, drop, get_or, refl, sym, ap}
use Rattle.std.proofs.Common.{◌∙◌, arith, inl, inr, true}
use Rattle.std.proofs.lemmas.Bool.{cases_order}
use Rattle.std.proofs.Math.Seq.{get_or-append_seam}
use Rattle.std.proofs.lemmas.List.{length-append, append-nil, length-take-le, get_or-take, get_or_append_left, drop_more, take-append-drop}
use Rattle.lnt_wire.specs.Reading.{At, Reads, Refuses}
use Rattle.lnt_wire.specs.Bytes.{NoneSpelled, IsCode, TakenBytes}
use Rattle.lnt_wire.specs.declared.fault.Fault.{Fault}
use Rattle.lnt_wire.specs.declared.fault.Reason.{Reason}
use Rattle.lnt_wire.specs.declared.fault.Reason.TheVariants.{Truncated, StandardLength}
use Rattle.lnt_wire.specs.declared.format.Format.{Format}
use Rattle.lnt_wire.specs.declared.format.Order.{Order}
use Rattle.lnt_wire.proofs.LengthLaws.{same_prefix, same_rest}
use Rattle.lnt_header.proofs.FirstFaultLaws.{AreOne, first_of, IsOneFault}
use Rattle.lnt_header.proofs.ReaderLaws.{first_refused, second_refused, reads_both}
use Rattle.lnt_header.specs.declared.header.Entry.{Entry}
use Rattle.lnt_header.specs.declared.header.Pair.{Pair}
use Rattle.lnt_header.specs.HeaderRules.{AreStandardLengths}
use Rattle.lnt_header.specs.OpRules.{known_lengths, last_known}
use Rattle.lnt_header_bytes.specs.TableBytes.{TableOf}
use Rattle.lnt_header_bytes.specs.TableFaults.{IsTableFault}
use Rattle.lnt_header_bytes.specs.FieldsBytes.{FieldsBytes, AfterSingles, AfterLengths, TwoTables}
use Rattle.lnt_header_bytes.specs.HeaderFaults.{TwoTablesFault, AfterSinglesFault, IsHeaderFault, SinglesBytes, IsSinglesFault}
use Rattle.lnt_header_bytes.specs.HeaderFaults.{LengthsBytes, IsLengthsFault, Singles}
use Rattle.lnt_header_bytes.proofs.FaultLaws.{so_end, so_past}
use Rattle.lnt_header_bytes.proofs.SoundLemmas.{singles_code, singles_fault}
use Rattle.lnt_header_bytes.proofs.TableLaws.{same_table}
use Rattle.lnt_header_bytes.proofs.TableReaders.{table_fault}
use Rattle.std.proofs.lemmas.Grind.{common_steps}

-- ---- the standard opcode lengths

-- the bytes so far are the known ones
pub record Agrees (n : ℕ) (bytes : List ℕ) : Type 0 where
  pub at : (j : ℕ) → j < n → j < length bytes → get_or bytes j 0 ≡ get_or known_lengths j 0

agreed : (bytes known : List ℕ) → ((j : ℕ) → j < length known → j < length bytes → get_or bytes j 0 ≡ get_or known j 0)
    → take (length known) bytes ≡ take (length bytes) known
agreed [] [] h = refl
agreed [] (k ∷ known) h = refl
agreed (b ∷ bytes) [] h = refl
agreed (b ∷ bytes) (k ∷ known) h =
    let head : b ≡ k = h 0 (omega arith) (omega arith) in
    let tails : take (length known) bytes ≡ take (length bytes) known =
    agreed bytes known (λ j lt small. h (suc j) (omega arith) (omega arith)) in
    cc

below : (j n size : ℕ) → j < last_known → j < size → (n < last_known → size ≤ n) → j < n
below j n size lt small short = grind (arith, common_steps, cases_order)

pub are_standard : (bytes : List ℕ) (n : ℕ) → Agrees n bytes → (n < last_known → length bytes ≤ n) → AreStandardLengths bytes
are_standard bytes n h short = agreed bytes known_lengths (λ j lt small. h.at j (below j n (length bytes) lt small short) small)

agrees_prefix : (x y bytes : List ℕ) (n : ℕ) → bytes ≡ x ++ y → Agrees n bytes → Agrees n x
agrees_prefix x y bytes n e h = record {
  at = λ j lt small. sym (get_or_append_left x y 0 j small) ∙ ap (λ (z : List ℕ). get_or z j 0) (sym e)
      ∙ h.at j lt (omega (arith, ap length e, length-append x y));
}

-- where lengths are standard ones, none of them is another
standard_none : (lengths more before past : List ℕ) (given : ℕ) → AreStandardLengths lengths → length before < length lengths
    → length before < last_known → given ≢ get_or known_lengths (length before) 0 → lengths ++ more ≡ before ++ given ∷ past → ⊥
standard_none lengths more before past given standard lt few other e =
    let i = length before in
    let known : get_or lengths i 0 ≡ get_or known_lengths i 0 =
    sym (get_or-take last_known lengths i 0 few) ∙ ap (λ (z : List ℕ). get_or z i 0) standard
    ∙ get_or-take (length lengths) known_lengths i 0 lt in
    other (sym (get_or-append_seam before given past 0) ∙ ap (λ (z : List ℕ). get_or z i 0) (sym e)
    ∙ get_or_append_left lengths more 0 i lt ∙ known)

lengths_none : (opcode_base : ℕ) (reason : Reason) (before left : List ℕ) → IsLengthsFault opcode_base reason before left
    → NoneSpelled (LengthsBytes opcode_base) (before ++ left)
lengths_none opcode_base Truncated before left h lengths x more p e =
    omega (arith, ap length e, length-append before left, length-append x more, ap length h.ends, h.few, ap length p.2, p.0)
lengths_none opcode_base (StandardLength opcode given) before left h lengths x more p e =
    standard_none lengths more before h.0 given p.1 (omega (arith, h.2, h.3, p.0)) (omega (arith, h.2, h.4)) h.5
    (ap (λ (z : List ℕ). z ++ more) (sym p.2) ∙ e ∙ ap (λ (z : List ℕ). before ++ z) h.6)
lengths_none opcode_base reason before left h lengths x more p e = absurd h

lengths_one : (opcode_base : ℕ) → AreOne (IsLengthsFault opcode_base)
lengths_one opcode_base Truncated Truncated before before' left left' h k e = (
  refl,
  sym (append-nil before) ∙ ap (λ (z : List ℕ). before ++ z) (sym h.ends) ∙ e ∙ ap (λ (z : List ℕ). before' ++ z) k.ends
      ∙ append-nil before',
)
lengths_one opcode_base Truncated (StandardLength opcode given) before before' left left' h k e =
    let all : before ++ left ≡ before' ++ given ∷ k.0 = e ∙ ap (λ (z : List ℕ). before' ++ z) k.6 in
    absurd (standard_none before left before' k.0 given h.standard
    (omega (arith, ap length all, length-append before left, ap length h.ends, length-append before' (given ∷ k.0)))
    (omega (arith, k.2, k.4)) k.5 all)
lengths_one opcode_base Truncated other before before' left left' h k e = absurd k
lengths_one opcode_base (StandardLength opcode given) Truncated before before' left left' h k e =
    let all : before' ++ left' ≡ before ++ given ∷ h.0 = sym e ∙ ap (λ (z : List ℕ). before ++ z) h.6 in
    absurd (standard_none before' left' before h.0 given k.standard
    (omega (arith, ap length all, length-append before' left', ap length k.ends, length-append before (given ∷ h.0)))
    (omega (arith, h.2, h.4)) h.5 all)
lengths_one opcode_base (StandardLength opcode given) (StandardLength opcode' given') before before' left left' h k e =
    elim (cases_order (length before) (length before')) [
      | inr (inl lt) ↦ absurd
          (standard_none before' left' before h.0 given k.1 lt (omega (arith, h.2, h.4)) h.5 (sym e ∙ ap (λ (z : List ℕ). before ++ z) h.6))
      | inl same ↦
          let prefixes : before ≡ before' = same_prefix before before' left left' same e in
          let rest : given ∷ h.0 ≡ given' ∷ k.0 = sym h.6 ∙ same_rest before before' left left' prefixes e ∙ k.6 in
          let givens : given ≡ given' = cc in
          let opcodes : opcode ≡ opcode' = omega (arith, h.2, k.2, same) in
          (ap (λ (n : ℕ). StandardLength n given) opcodes ∙ ap (StandardLength opcode') givens, prefixes)
      | inr (inr gt) ↦ absurd
          (standard_none before left before' k.0 given' h.1 gt (omega (arith, k.2, k.4)) k.5 (e ∙ ap (λ (z : List ℕ). before' ++ z) k.6))
    ]
lengths_one opcode_base (StandardLength opcode given) other before before' left left' h k e = absurd k
lengths_one opcode_base reason other before before' left left' h k e = absurd h

pub lengths_fault : (opcode_base : ℕ) → IsOneFault (LengthsBytes opcode_base) (IsLengthsFault opcode_base)
lengths_fault opcode_base = record { none = lengths_none opcode_base; one = lengths_one opcode_base }

pub refuses_length : (opcode_base i opcode given : ℕ) (old : At) (fault : Fault) → Agrees i old.rest → i + 1 < opcode_base → i < last_known
    → i < length old.rest → given ≡ get_or old.rest i 0 → given ≢ get_or known_lengths i 0
    → opcode ≡ i + 1 → fault.place ≡ old.place + i → fault.reason ≡ StandardLength opcode given
    → Refuses (IsLengthsFault opcode_base) (LengthsBytes opcode_base) old fault
refuses_length opcode_base i opcode given old fault h lt small long given_is other opcode_is place reason =
    let size : length (take i old.rest) ≡ i = length-take-le i old.rest (omega arith) in
    let standard : AreStandardLengths (take i old.rest) = are_standard (take i old.rest) i
    (agrees_prefix (take i old.rest) (drop i old.rest) old.rest i (sym (take-append-drop i old.rest)) h) (λ lt. omega (arith, size)) in
    so_past (lengths_fault opcode_base) old fault (StandardLength opcode given) i (omega arith) place reason (
      drop (i + 1) old.rest,
      standard,
      omega (arith, size, opcode_is),
      omega (arith, opcode_is),
      omega (arith, opcode_is),
      λ e. other (e ∙ ap (λ (k : ℕ). get_or known_lengths k 0) size),
      drop_more old.rest i 0 long ∙ ap (λ (k : ℕ). k ∷ drop (i + 1) old.rest) (sym given_is),
    )

pub cut_lengths : (opcode_base n : ℕ) (old : At) (fault : Fault) → 0 < opcode_base → length old.rest < opcode_base - 1 → Agrees n old.rest
    → (n < last_known → opcode_base ≡ n + 1) → fault.place ≡ old.place + length old.rest
    → fault.reason ≡ Truncated → Refuses (IsLengthsFault opcode_base) (LengthsBytes opcode_base) old fault
cut_lengths opcode_base n old fault some lt h all place reason = grind (arith, common_steps, are_standard, so_end, lengths_fault)

pub reads_lengths : (opcode_base n : ℕ) (given_lengths : List ℕ) (old new : At) → 0 < opcode_base
    → Reads (TakenBytes (opcode_base - 1)) given_lengths old new → Agrees n old.rest → (n < last_known → opcode_base ≡ n + 1)
    → Reads (LengthsBytes opcode_base) given_lengths old new
reads_lengths opcode_base n given_lengths old new some r h all =
    let whole : old.rest ≡ given_lengths ++ new.rest = r.whole ∙ ap (λ (z : List ℕ). z ++ new.rest) (sym r.spelled.taken_is) in
    let size : length given_lengths ≡ opcode_base - 1 = ap length r.spelled.taken_is ∙ r.spelled.count_is in
    let standard : AreStandardLengths given_lengths =
    are_standard given_lengths n (agrees_prefix given_lengths new.rest old.rest n whole h) (λ lt. omega (arith, all lt, size)) in
    record {
      spelling = r.spelling;
      spelled = (omega (arith, size, some), standard, sym r.spelled.taken_is);
      whole = r.whole;
      place = r.place;
      order = r.order;
    }

-- ---- the fields of a header

pub lengths_code : (opcode_base : ℕ) → IsCode (LengthsBytes opcode_base)
lengths_code opcode_base = grind (arith, common_steps, same_prefix)

table_code : (format : Format) (order : Order) → IsCode (TableOf format order)
table_code format order = record {
  one = λ s t x y r q p p' e.
      let same = same_table format order s.0 t.0 s.1 t.1 x y r q p p' e in
      (ap (λ (ps : List Pair). (ps, s.1)) same.format ∙ ap (λ (es : List Entry). (t.0, es)) same.values, same.bytes);
}

tables_fault : (format : Format) (order : Order) → IsOneFault (TwoTables format order) (TwoTablesFault format order)
tables_fault format order =
    first_of (TableOf format order) (IsTableFault format order) (λ _. IsTableFault format order) (table_code format order)
    (λ _. TableOf format order) (table_fault format order) (λ _. table_fault format order)

after_singles_fault : (format : Format) (order : Order) (s : Singles)
    → IsOneFault (AfterSingles format order s) (AfterSinglesFault format order s)
after_singles_fault format order s =
    first_of (LengthsBytes s.opcode_base) (IsLengthsFault s.opcode_base) (λ _. TwoTablesFault format order) (lengths_code s.opcode_base)
    (AfterLengths format order) (lengths_fault s.opcode_base) (λ _. tables_fault format order)

pub fields_fault : (format : Format) (order : Order) → IsOneFault (FieldsBytes format order) (IsHeaderFault format order)
fields_fault format order =
    first_of (SinglesBytes true) (IsSinglesFault true) (AfterSinglesFault format order) (singles_code true) (AfterSingles format order)
    (singles_fault true) (after_singles_fault format order)

pub refuses_singles : (format : Format) (old : At) (fault : Fault) → Refuses (IsSinglesFault true) (SinglesBytes true) old fault
    → Refuses (IsHeaderFault format old.order) (FieldsBytes format old.order) old fault
refuses_singles format old fault r = first_refused (SinglesBytes true) (AfterSingles format old.order) old fault r

module _ (format : Format) (s : Singles) (old m1 : At) (r : Reads (SinglesBytes true) s old m1) where
  after_singles : (fault : Fault) → Refuses (AfterSinglesFault format m1.order s) (AfterSingles format m1.order s) m1 fault
      → Refuses (IsHeaderFault format old.order) (FieldsBytes format old.order) old fault
  after_singles fault t =
      second_refused (AfterSinglesFault format) (SinglesBytes true) (AfterSingles format) s old m1 fault (singles_code true) r t

  pub refuses_lengths : (fault : Fault) → Refuses (IsLengthsFault s.opcode_base) (LengthsBytes s.opcode_base) m1 fault
      → Refuses (IsHeaderFault format old.order) (FieldsBytes format old.order) old fault
  refuses_lengths fault t = after_singles fault (first_refused (LengthsBytes s.opcode_base) (AfterLengths format m1.order) m1 fault t)

module _ (format : Format) (s : Singles) (ls : List ℕ) (old m1 m2 : At) (r : Reads (SinglesBytes true) s old m1)
    (t : Reads (LengthsBytes s.opcode_base) ls m1 m2) where
  after_lengths : (fault : Fault) → Refuses (TwoTablesFault format m2.order) (TwoTables format m2.order) m2 fault
      → Refuses (IsHeaderFault format old.order) (FieldsBytes format old.order) old fault
  after_lengths fault u =
      after_singles format s old m1 r fault (second_refused (λ order _. TwoTablesFault format order) (LengthsBytes s.opcode_base)
      (AfterLengths format) ls m1 m2 fault (lengths_code s.opcode_base) t u)

  pub refuses_directories : (fault : Fault) → Refuses (IsTableFault format m2.order) (TableOf format m2.order) m2 fault
      → Refuses (IsHeaderFault format old.order) (FieldsBytes format old.order) old fault
  refuses_directories fault u = after_lengths fault (first_refused (TableOf format m2.order) (λ _. TableOf format m2.order) m2 fault u)

  pub refuses_files : (directories : List Pair × List Entry) (m3 : At) (fault : Fault) → Reads (TableOf format m2.order) directories m2 m3
      → Refuses (IsTableFault format m3.order) (TableOf format m3.order) m3 fault
      → Refuses (IsHeaderFault format old.order) (FieldsBytes format old.order) old fault
  refuses_files directories m3 fault u v =
      after_lengths fault (second_refused (λ order _. IsTableFault format order) (TableOf format m2.order) (λ order _. TableOf format order)
      directories m2 m3 fault (table_code format m2.order) u v)

  pub reads_fields : (directories files : List Pair × List Entry) (m3 new : At) → Reads (TableOf format m2.order) directories m2 m3
      → Reads (TableOf format m3.order) files m3 new → Reads (FieldsBytes format old.order) (s, (ls, (directories, files))) old new
  reads_fields directories files m3 new u v =
      let tables = reads_both (TableOf format m2.order) (λ order _. TableOf format order) directories files m2 m3 new u v in
      let past = reads_both (LengthsBytes s.opcode_base) (AfterLengths format) ls (directories, files) m1 m2 new t tables in
      reads_both (SinglesBytes true) (AfterSingles format) s (ls, (directories, files)) old m1 new r past

-- The lemmas of `read_fields`.
pub ruleset read_fields_lemmas = (refuses_singles, refuses_lengths, refuses_directories, refuses_files)

-- The lemmas of `read_lengths`.
pub ruleset read_lengths_lemmas = (refuses_length, cut_lengths, reads_lengths)
