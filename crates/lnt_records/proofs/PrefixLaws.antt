-- A prefix of some bytes that ends in a record with too many fields: its other records are those of the bytes.
use Rattle.std.proofs.Common.{◌≡◌, ◌⊎◌, ◌∙◌, ℕ, ◌<◌, ◌≤◌, Bool, true, false, List, [], ◌∷◌, ◌++◌, Some, None, length, length-append, refl}
use Rattle.std.proofs.Common.{sym, ap, subst, arith, inl, inr, if◌then◌else◌}
use Rattle.std.specs.List.{AllByRecursion}
use Rattle.csv.specs.Machine.{Read, ends_at_end, field_after, fields_after, is_end, next_record, step}
use Rattle.csv.specs.Reading.{Reached, default_config, strip_bom}
use Rattle.csv.specs.declared.parser.State.{State}
use Rattle.csv.specs.declared.parser.State.TheVariants as st
use Rattle.lnt_records.specs.Reading.{EndsWide, IsPrefixOf, IsNarrow, IsReadAs, IsReadFor}
use Rattle.lnt_records.specs.Table.{BeginsWith, Fields, RecordsOf}
use Rattle.lnt_csv.proofs.RecordLaws.{records_begin}
use Rattle.lnt_csv.proofs.RecordLaws.{one_beginning}
use Rattle.lnt_csv.proofs.ReadingLaws.{record_left, same_read}
use Rattle.lnt_csv.proofs.RecordLaws.{begins_all, one_end, one_list}
use Rattle.lnt_records.proofs.WideLemmas.{more_read, outside_comment, stripped_prefix}

-- ---- one record

-- the record ends at the end of the text
abbrev IsLast : Read → Type 0
IsLast p = (p.1 ≡ st.StartRecord) × (p.2 ≡ [])

-- With more bytes the same record is read, unless it ends where the text ends.
ends_before : (s : State) (fields : Fields) (field bytes more : List ℕ) (p : Read)
    → next_record default_config s fields field bytes ≡ Some p
    → IsLast p ⊎ (next_record default_config s fields field (bytes ++ more) ≡ Some (p.0, p.1, p.2 ++ more))
unfolding next_record
ends_before s fields field [] more p e = by (ends_at_end s) e
  where
    by : (b : Bool) → (if b then Some (fields ++ (field ∷ []), st.StartRecord, []) else None) ≡ Some p
        → IsLast p ⊎ (next_record default_config s fields field more ≡ Some (p.0, p.1, p.2 ++ more))
    by true read =
        let same : (fields ++ (field ∷ []), st.StartRecord, []) ≡ p = same_read _ _ read in
        inl (sym (ap (λ (q : Read). q.1) same), sym (ap (λ (q : Read). q.2) same))
    by false read = absurd (cc read)
ends_before s fields field (c ∷ bytes) more p e =
    by (is_end (step default_config s c).1) e
    (ends_before (step default_config s c).0 (fields_after (step default_config s c).1 fields field)
    (field_after (step default_config s c).1 c field) bytes more p)
  where
    by : (b : Bool) → (if b then Some (fields_after (step default_config s c).1 fields field, (step default_config s c).0, bytes)
        else next_record default_config (step default_config s c).0 (fields_after (step default_config s c).1 fields field)
        (field_after (step default_config s c).1 c field) bytes) ≡ Some p
        → (next_record default_config (step default_config s c).0 (fields_after (step default_config s c).1 fields field)
        (field_after (step default_config s c).1 c field) bytes ≡ Some p
        → IsLast p ⊎ (next_record default_config (step default_config s c).0 (fields_after (step default_config s c).1 fields field)
        (field_after (step default_config s c).1 c field) (bytes ++ more) ≡ Some (p.0, p.1, p.2 ++ more)))
        → IsLast p ⊎ ((if b then Some (fields_after (step default_config s c).1 fields field, (step default_config s c).0, bytes ++ more)
        else next_record default_config (step default_config s c).0 (fields_after (step default_config s c).1 fields field)
        (field_after (step default_config s c).1 c field) (bytes ++ more)) ≡ Some (p.0, p.1, p.2 ++ more))
    by true read on = inr (ap (λ (q : Read). Some (q.0, q.1, q.2 ++ more)) (same_read _ _ read))
    by false read on = on read

-- ---- several records

-- no comment begins between two records
between_outside : (s : State) → ends_at_end s ≡ false → outside_comment s ≡ true
between_outside st.StartRecord e = refl
between_outside st.AfterCr e = refl
between_outside st.StartField e = refl
between_outside st.InField e = refl
between_outside st.InQuoted e = refl
between_outside st.AfterQuote e = refl
between_outside st.InEscape e = refl
between_outside st.InComment e = absurd (cc e)

-- The last record ends where the text ends; with more bytes it has no fewer fields.
record Widens (s : State) (bytes : List ℕ) (records : List Fields) (fields : Fields) (after : State) (rest : List ℕ) : Type 0 where
  last : IsLast (fields, after, rest)
  whole : Fields
  wider : length fields ≤ length whole
  state : State
  left : List ℕ
  reached : Reached default_config s bytes (records ++ whole ∷ []) state left

-- no record follows the last one
none_after : (records : List Fields) (fields : Fields) (after : State) (rest : List ℕ)
    → Reached default_config st.StartRecord [] (records ++ fields ∷ []) after rest → ⊥
unfolding Reached next_record
none_after [] fields after rest h = let read = h.1 in cc read
none_after (r ∷ records) fields after rest h = let read = h.1 in cc read

-- With more bytes the same records are read, or the last one has more fields.
read_on : (s : State) (bytes more : List ℕ) (records : List Fields) (fields : Fields) (after : State) (rest : List ℕ)
    → ends_at_end s ≡ false → Reached default_config s bytes (records ++ fields ∷ []) after rest
    → Widens s (bytes ++ more) records fields after rest
    ⊎ Reached default_config s (bytes ++ more) (records ++ fields ∷ []) after (rest ++ more)
unfolding Reached
read_on s bytes more [] fields after rest between h = by (ends_before s [] [] bytes more h.0 h.1)
  where
    by : IsLast h.0 ⊎ (next_record default_config s [] [] (bytes ++ more) ≡ Some (h.0.0, h.0.1, h.0.2 ++ more))
        → Widens s (bytes ++ more) [] fields after rest ⊎ Reached default_config s (bytes ++ more) (fields ∷ []) after (rest ++ more)
    by (inl last) =
        let wide = more_read s [] [] bytes more h.0 (between_outside s between) h.1 in
        inl (record {
          last = (sym h.3.0 ∙ last.0, sym h.3.1 ∙ last.1);
          whole = wide.read.0;
          wider = omega (arith, wide.fields, ap (λ (f : Fields). length f) h.2);
          state = wide.read.1;
          left = wide.read.2;
          reached = (wide.read, wide.is, refl, (refl, refl));
        })
    by (inr read) = inr ((h.0.0, h.0.1, h.0.2 ++ more), read, h.2, (h.3.0, ap (λ (l : List ℕ). l ++ more) h.3.1))
read_on s bytes more (r ∷ records) fields after rest between h =
    by (ends_before s [] [] bytes more h.0 h.1)
    (read_on h.0.1 h.0.2 more records fields after rest (record_left s [] [] bytes h.0 h.1).between h.3)
  where
    by : IsLast h.0 ⊎ (next_record default_config s [] [] (bytes ++ more) ≡ Some (h.0.0, h.0.1, h.0.2 ++ more))
        → Widens h.0.1 (h.0.2 ++ more) records fields after rest
        ⊎ Reached default_config h.0.1 (h.0.2 ++ more) (records ++ fields ∷ []) after (rest ++ more)
        → Widens s (bytes ++ more) (r ∷ records) fields after rest
        ⊎ Reached default_config s (bytes ++ more) (r ∷ (records ++ fields ∷ [])) after (rest ++ more)
    by (inl last) on =
        let from : Reached default_config st.StartRecord h.0.2 (records ++ fields ∷ []) after rest =
        subst (λ (x : State). Reached default_config x h.0.2 (records ++ fields ∷ []) after rest) last.0 h.3 in
        absurd (none_after records fields after rest
        (subst (λ (t : List ℕ). Reached default_config st.StartRecord t (records ++ fields ∷ []) after rest) last.1 from))
    by (inr read) (inl w) = inl (record {
      last = w.last;
      whole = w.whole;
      wider = w.wider;
      state = w.state;
      left = w.left;
      reached = ((h.0.0, h.0.1, h.0.2 ++ more), read, h.2, w.reached);
    })
    by (inr read) (inr on) = inr ((h.0.0, h.0.1, h.0.2 ++ more), read, h.2, on)

-- ---- the prefix

-- A text's last record is the only one.
last_same : (bytes : List ℕ) (xs ys : List Fields) (x y : Fields) → RecordsOf bytes (xs ++ x ∷ []) → RecordsOf bytes (ys ++ y ∷ []) → x ≡ y
last_same bytes xs ys x y h k =
    let lengths = ap length (one_list bytes (xs ++ x ∷ []) (ys ++ y ∷ []) h k) in
    (one_end bytes xs ys x y (begins_all bytes _ h) (begins_all bytes _ k)
    (omega (arith, lengths, length-append xs (x ∷ []), length-append ys (y ∷ [])))).1

last_narrow : (records : List Fields) (last : Fields) → AllByRecursion IsNarrow (records ++ last ∷ []) → length last ≤ 11
last_narrow [] last all = all.0
last_narrow (r ∷ records) last all = last_narrow records last all.1

prefix_begins : (prefix bytes : List ℕ) → IsPrefixOf prefix bytes → 3 ≤ length prefix → EndsWide prefix
    → (records : List Fields) (fields : Fields)
    → BeginsWith prefix (records ++ fields ∷ []) → (whole : Fields) × IsReadAs fields whole × BeginsWith bytes (records ++ whole ∷ [])
unfolding Reached next_record
prefix_begins prefix bytes f long ends records fields h =
    by (read_on st.StartRecord (strip_bom prefix) f.more records fields h.0 h.1 refl h.2)
  where
    joined : strip_bom bytes ≡ strip_bom prefix ++ f.more
    joined = ap strip_bom f.joined ∙ stripped_prefix prefix f.more long

    by : Widens st.StartRecord (strip_bom prefix ++ f.more) records fields h.0 h.1
        ⊎ Reached default_config st.StartRecord (strip_bom prefix ++ f.more) (records ++ fields ∷ []) h.0 (h.1 ++ f.more)
        → (whole : Fields) × IsReadAs fields whole × BeginsWith bytes (records ++ whole ∷ [])
    by (inl w) =
        let none : next_record default_config h.0 [] [] h.1 ≡ None =
        ap (λ (s : State). next_record default_config s [] [] h.1) w.last.0
        ∙ ap (λ (t : List ℕ). next_record default_config st.StartRecord [] [] t) w.last.1 in
        let same : fields ≡ ends.last = last_same prefix records ends.records fields ends.last (h.0, h.1, h.2, none) ends.all in
        let wide : 11 < length fields = omega (arith, ends.wide, ap (λ (r : Fields). length r) same) in (
          w.whole,
          inr (wide, omega (arith, wide, w.wider)),
          (
            w.state,
            w.left,
            subst (λ (t : List ℕ). Reached default_config st.StartRecord t (records ++ w.whole ∷ []) w.state w.left)
                (sym joined) w.reached,
          ),
        )
    by (inr on) = (
      fields,
      inl refl,
      (
        h.0,
        h.1 ++ f.more,
        subst (λ (t : List ℕ). Reached default_config st.StartRecord t (records ++ fields ∷ []) h.0 (h.1 ++ f.more))
            (sym joined) on,
      ),
    )

prefix_first : (prefix bytes : List ℕ) → IsPrefixOf prefix bytes → 3 ≤ length prefix → EndsWide prefix → (fields : Fields) → IsNarrow fields
    → BeginsWith bytes (fields ∷ []) → BeginsWith prefix (fields ∷ [])
prefix_first prefix bytes f long ends fields narrow h = by_records ends.records ends.last ends.all
  where
    by_begun : (other : Fields) → BeginsWith prefix (other ∷ []) → (whole : Fields) → IsReadAs other whole → whole ≡ fields
        → BeginsWith prefix (fields ∷ [])
    by_begun other b whole (inl same) e = subst (λ (r : Fields). BeginsWith prefix (r ∷ [])) (sym same ∙ e) b
    by_begun other b whole (inr wide) e = absurd (omega (arith, narrow, wide.1, ap (λ (r : Fields). length r) e))

    by_first : (other : Fields) → BeginsWith prefix (other ∷ []) → BeginsWith prefix (fields ∷ [])
    by_first other b =
        let begun = prefix_begins prefix bytes f long ends [] other b in
        by_begun other b begun.0 begun.1 (one_beginning bytes begun.0 fields begun.2 h)

    by_records : (records : List Fields) (last : Fields) → RecordsOf prefix (records ++ last ∷ []) → BeginsWith prefix (fields ∷ [])
    by_records [] last all = by_first last (records_begin prefix last [] all)
    by_records (r ∷ records) last all = by_first r (records_begin prefix r (records ++ last ∷ []) all)

pub prefix_read : (prefix bytes : List ℕ) → IsPrefixOf prefix bytes → 3 ≤ length prefix → EndsWide prefix → IsReadFor prefix bytes
prefix_read prefix bytes f long ends = record {
  few = omega (arith, ap length f.joined, length-append prefix f.more);
  first = prefix_first prefix bytes f long ends;
  begins = prefix_begins prefix bytes f long ends;
  all = λ records h narrow. absurd (
      let same = one_list prefix records (ends.records ++ ends.last ∷ []) h ends.all in
      omega (arith, ends.wide, last_narrow ends.records ends.last (subst (AllByRecursion IsNarrow) same narrow))
      );
}

-- ---- the last record so far

-- The last of these records, if there are any, has so many fields.
pub record EndsIn (records : List Fields) (count : ℕ) : Type 0 where
  pub before : List Fields
  pub last : Fields
  pub is : records ≡ before ++ last ∷ []
  pub count_is : count ≡ length last

pub ends_in : (bytes : List ℕ) (records : List Fields) (count : ℕ) → RecordsOf bytes records → (0 < count → EndsIn records count)
    → 11 < count → EndsWide bytes
ends_in bytes records count all last wide =
    let end = last (omega (arith, wide)) in
    record {
      records = end.before;
      last = end.last;
      all = subst (RecordsOf bytes) end.is all;
      wide = omega (arith, wide, end.count_is);
    }
