-- A text that is cut off in its first record: with more bytes that record keeps the fields that it has, or gets more.
use Rattle.std.proofs.Common.{◌≡◌, ◌∙◌, ℕ, ◌+◌, ◌≤◌, Bool, true, false, List, [], ◌∷◌, ◌++◌, Option, Some, None, length, take, drop}
use Rattle.std.proofs.Common.{length-append, refl, sym, ap, arith, ◌==◌, if◌then◌else◌, take-append-drop}
use Rattle.csv.specs.Machine.{Read, after_end, ends_at_end, ends_with, field_after, fields_after, in_field, is_end, next_record}
use Rattle.csv.specs.Machine.{start_field, start_record, step}
use Rattle.csv.specs.Reading.{Reached, default_config, is_bom, strip_bom}
use Rattle.csv.specs.declared.parser.Action.{Action}
use Rattle.csv.specs.declared.parser.Action.TheVariants as act
use Rattle.csv.specs.declared.parser.State.{State}
use Rattle.csv.specs.declared.parser.State.TheVariants as st
use Rattle.csv.specs.declared.parser.Terminator.TheVariants as term
use Rattle.lnt_csv.specs.Reading.{BytesReader, HasRead}
use Rattle.lnt_records.specs.Reading.{IsPrefixOf}
use Rattle.lnt_records.specs.Table.{BeginsWith, Fields}
use Rattle.lnt_csv.proofs.RecordLaws.{one_beginning}
use Rattle.lnt_csv.proofs.ReadingLaws.{same_read}

-- ---- a record that has begun

-- whether a record has begun and isn't ended yet
abbrev in_record : State → Bool
in_record st.StartRecord = false
in_record st.AfterCr = false
in_record st.InComment = false
in_record st.StartField = true
in_record st.InField = true
in_record st.InQuoted = true
in_record st.AfterQuote = true
in_record st.InEscape = true

-- whether the text isn't in a comment, of which tables have none
abbrev pub outside_comment : State → Bool
outside_comment st.InComment = false
outside_comment st.StartRecord = true
outside_comment st.AfterCr = true
outside_comment st.StartField = true
outside_comment st.InField = true
outside_comment st.InQuoted = true
outside_comment st.AfterQuote = true
outside_comment st.InEscape = true

-- If the byte doesn't end the record, the record goes on.
abbrev GoesOn : State × Action → Type 0
GoesOn p = is_end p.1 ≡ false → in_record p.0 ≡ true

abbrev IsOutside : State × Action → Type 0
IsOutside p = outside_comment p.0 ≡ true

by_test : (P : State × Action → Type 0) (b : Bool) (p q : State × Action) → P p → P q → P (if b then p else q)
by_test P true p q h k = h
by_test P false p q h k = k

in_field_on : (c : ℕ) → GoesOn (in_field default_config c)
in_field_on c =
    by_test GoesOn (c == 44) (st.StartField, act.EndField) _ (λ e. refl)
    (by_test GoesOn (ends_with term.CRLF c) (after_end term.CRLF c, act.EndRecord) (st.InField, act.Copy) (λ e. absurd (cc e)) (λ e. refl))

start_field_on : (c : ℕ) → GoesOn (start_field default_config c)
start_field_on c = by_test GoesOn (c == 34) (st.InQuoted, act.Skip) (in_field default_config c) (λ e. refl) (in_field_on c)

step_on : (s : State) (c : ℕ) → in_record s ≡ true → GoesOn (step default_config s c)
step_on st.StartRecord c t = absurd (cc t)
step_on st.AfterCr c t = absurd (cc t)
step_on st.InComment c t = absurd (cc t)
step_on st.StartField c t = start_field_on c
step_on st.InField c t = in_field_on c
step_on st.InQuoted c t =
    by_test GoesOn (c == 34) (st.AfterQuote, act.Skip) (st.InQuoted, act.Copy) (λ e. refl) (λ e. refl)
step_on st.InEscape c t = λ e. refl
step_on st.AfterQuote c t =
    by_test GoesOn (c == 34) (st.InQuoted, act.Copy) (in_field default_config c) (λ e. refl) (in_field_on c)

after_end_outside : (c : ℕ) → outside_comment (after_end term.CRLF c) ≡ true
after_end_outside c = by (c == 13)
  where
    by : (b : Bool) → outside_comment (if b then st.AfterCr else st.StartRecord) ≡ true
    by true = refl
    by false = refl

in_field_outside : (c : ℕ) → IsOutside (in_field default_config c)
in_field_outside c =
    by_test IsOutside (c == 44) (st.StartField, act.EndField) _ refl
    (by_test IsOutside (ends_with term.CRLF c) (after_end term.CRLF c, act.EndRecord) (st.InField, act.Copy) (after_end_outside c) refl)

start_field_outside : (c : ℕ) → IsOutside (start_field default_config c)
start_field_outside c = by_test IsOutside (c == 34) (st.InQuoted, act.Skip) (in_field default_config c) refl (in_field_outside c)

start_record_outside : (c : ℕ) → IsOutside (start_record default_config c)
start_record_outside c =
    by_test IsOutside (ends_with term.CRLF c) (st.StartRecord, act.Skip) (start_field default_config c) refl (start_field_outside c)

step_outside : (s : State) (c : ℕ) → outside_comment s ≡ true → IsOutside (step default_config s c)
step_outside st.InComment c t = absurd (cc t)
step_outside st.StartRecord c t = start_record_outside c
step_outside st.AfterCr c t =
    by_test IsOutside (c == 10) (st.StartRecord, act.Skip) (start_record default_config c) refl (start_record_outside c)
step_outside st.StartField c t = start_field_outside c
step_outside st.InField c t = in_field_outside c
step_outside st.InQuoted c t = by_test IsOutside (c == 34) (st.AfterQuote, act.Skip) (st.InQuoted, act.Copy) refl refl
step_outside st.InEscape c t = refl
step_outside st.AfterQuote c t = by_test IsOutside (c == 34) (st.InQuoted, act.Copy) (in_field default_config c) refl (in_field_outside c)

-- ---- its fields

-- A record is read, with at least so many fields.
pub record GivesRecord (count : ℕ) (o : Option Read) : Type 0 where
  pub read : Read
  pub is : o ≡ Some read
  pub fields : count ≤ length read.0

fields_kept : (a : Action) (fields : Fields) (field : List ℕ) → length fields ≤ length (fields_after a fields field)
fields_kept act.Skip fields field = omega arith
fields_kept act.Copy fields field = omega arith
fields_kept act.EndField fields field = omega (arith, length-append fields (field ∷ []))
fields_kept act.EndRecord fields field = omega (arith, length-append fields (field ∷ []))

one_more_field : (a : Action) (fields : Fields) (field : List ℕ) → is_end a ≡ true
    → length (fields_after a fields field) ≡ length fields + 1
one_more_field act.Skip fields field e = absurd (cc e)
one_more_field act.Copy fields field e = absurd (cc e)
one_more_field act.EndField fields field e = absurd (cc e)
one_more_field act.EndRecord fields field e = length-append fields (field ∷ [])

ends_begun : (s : State) → in_record s ≡ true → ends_at_end s ≡ true
ends_begun st.StartRecord t = absurd (cc t)
ends_begun st.AfterCr t = absurd (cc t)
ends_begun st.InComment t = refl
ends_begun st.StartField t = refl
ends_begun st.InField t = refl
ends_begun st.InQuoted t = refl
ends_begun st.AfterQuote t = refl
ends_begun st.InEscape t = refl

begun_ends : (s : State) → outside_comment s ≡ true → ends_at_end s ≡ true → in_record s ≡ true
begun_ends st.InComment t e = absurd (cc t)
begun_ends st.StartRecord t e = absurd (cc e)
begun_ends st.AfterCr t e = absurd (cc e)
begun_ends st.StartField t e = refl
begun_ends st.InField t e = refl
begun_ends st.InQuoted t e = refl
begun_ends st.AfterQuote t e = refl
begun_ends st.InEscape t e = refl

weaker : (n m : ℕ) (o : Option Read) → n ≤ m → GivesRecord m o → GivesRecord n o
weaker n m o le g = record { read = g.read; is = g.is; fields = omega (arith, le, g.fields) }

-- A record that has begun is read, with one field more than those that were read.
begun_read : (s : State) (fields : Fields) (field bytes : List ℕ) → in_record s ≡ true
    → GivesRecord (length fields + 1) (next_record default_config s fields field bytes)
unfolding next_record
begun_read s fields field [] t =
    let ends : ends_at_end s ≡ true = ends_begun s t in
    record {
      read = (fields ++ (field ∷ []), st.StartRecord, []);
      is = ap (λ (b : Bool). if b then Some (fields ++ (field ∷ []), st.StartRecord, []) else None) ends;
      fields = omega (arith, length-append fields (field ∷ []));
    }
begun_read s fields field (c ∷ bytes) t =
    by (is_end (step default_config s c).1) refl
    (λ e. begun_read (step default_config s c).0 (fields_after (step default_config s c).1 fields field)
    (field_after (step default_config s c).1 c field) bytes (step_on s c t e))
  where
    by : (b : Bool) → is_end (step default_config s c).1 ≡ b
        → (is_end (step default_config s c).1 ≡ false
        → GivesRecord (length (fields_after (step default_config s c).1 fields field) + 1)
        (next_record default_config (step default_config s c).0 (fields_after (step default_config s c).1 fields field)
        (field_after (step default_config s c).1 c field) bytes))
        → GivesRecord (length fields + 1) (if b
        then Some (fields_after (step default_config s c).1 fields field, (step default_config s c).0, bytes)
        else next_record default_config (step default_config s c).0 (fields_after (step default_config s c).1 fields field)
        (field_after (step default_config s c).1 c field) bytes)
    by true e on = record {
      read = (fields_after (step default_config s c).1 fields field, (step default_config s c).0, bytes);
      is = refl;
      fields = omega (arith, one_more_field (step default_config s c).1 fields field e);
    }
    by false e on = weaker (length fields + 1) (length (fields_after (step default_config s c).1 fields field) + 1) _
        (omega (arith, fields_kept (step default_config s c).1 fields field)) (on e)

-- With more bytes the record has no fewer fields.
pub more_read : (s : State) (fields : Fields) (field bytes more : List ℕ) (p : Read) → outside_comment s ≡ true
    → next_record default_config s fields field bytes ≡ Some p
    → GivesRecord (length p.0) (next_record default_config s fields field (bytes ++ more))
unfolding next_record
more_read s fields field [] more p t e = by (ends_at_end s) refl e
  where
    by : (b : Bool) → ends_at_end s ≡ b → (if b then Some (fields ++ (field ∷ []), st.StartRecord, []) else None) ≡ Some p
        → GivesRecord (length p.0) (next_record default_config s fields field more)
    by true ends read =
        let same : (fields ++ (field ∷ []), st.StartRecord, []) ≡ p = same_read _ _ read in
        let count : length p.0 ≡ length fields + 1 =
        sym (ap (λ (q : Read). length q.0) same) ∙ length-append fields (field ∷ []) in
        weaker (length p.0) (length fields + 1) _ (omega (arith, count)) (begun_read s fields field more (begun_ends s t ends))
    by false ends read = absurd (cc read)
more_read s fields field (c ∷ bytes) more p t e =
    by (is_end (step default_config s c).1) e
    (more_read (step default_config s c).0 (fields_after (step default_config s c).1 fields field)
    (field_after (step default_config s c).1 c field) bytes more p (step_outside s c t))
  where
    by : (b : Bool) → (if b then Some (fields_after (step default_config s c).1 fields field, (step default_config s c).0, bytes)
        else next_record default_config (step default_config s c).0 (fields_after (step default_config s c).1 fields field)
        (field_after (step default_config s c).1 c field) bytes) ≡ Some p
        → (next_record default_config (step default_config s c).0 (fields_after (step default_config s c).1 fields field)
        (field_after (step default_config s c).1 c field) bytes ≡ Some p
        → GivesRecord (length p.0) (next_record default_config (step default_config s c).0
        (fields_after (step default_config s c).1 fields field)
        (field_after (step default_config s c).1 c field) (bytes ++ more)))
        → GivesRecord (length p.0)
        (if b then Some (fields_after (step default_config s c).1 fields field, (step default_config s c).0, bytes ++ more)
        else next_record default_config (step default_config s c).0 (fields_after (step default_config s c).1 fields field)
        (field_after (step default_config s c).1 c field) (bytes ++ more))
    by true read on =
        let same = same_read _ _ read in
        record {
          read = (fields_after (step default_config s c).1 fields field, (step default_config s c).0, bytes ++ more);
          is = refl;
          fields = omega (arith, ap (λ (q : Read). length q.0) same);
        }
    by false read on = on read

-- ---- record 0

pub prefix_taken : (i : ℕ) (bytes : List ℕ) → IsPrefixOf (take i bytes) bytes
prefix_taken i bytes = record { more = drop i bytes; joined = sym (take-append-drop i bytes) }

pub no_prefix : (bytes : List ℕ) → IsPrefixOf [] bytes
no_prefix bytes = record { more = bytes; joined = refl }

-- a byte order mark is in the prefix, if there is one
pub stripped_prefix : (prefix more : List ℕ) → 3 ≤ length prefix → strip_bom (prefix ++ more) ≡ strip_bom prefix ++ more
unfolding strip_bom
stripped_prefix [] more le = absurd (omega (arith, le))
stripped_prefix (a ∷ []) more le = absurd (omega (arith, le))
stripped_prefix (a ∷ b ∷ []) more le = absurd (omega (arith, le))
stripped_prefix (a ∷ b ∷ c ∷ rest) more le = by (is_bom a b c)
  where
    by : (t : Bool) → (if t then rest ++ more else a ∷ b ∷ c ∷ (rest ++ more)) ≡ (if t then rest else a ∷ b ∷ c ∷ rest) ++ more
    by true = refl
    by false = refl

-- Record 0 has no fewer fields than record 0 of a prefix.
pub prefix_fields : (reader : BytesReader) (prefix bytes : List ℕ) (found : Fields) → HasRead reader prefix (found ∷ [])
    → IsPrefixOf prefix bytes → 3 ≤ length prefix → (fields : Fields) → BeginsWith bytes (fields ∷ [])
    → length found ≤ length fields
unfolding Reached
prefix_fields reader prefix bytes found h f le fields begins =
    let first = h.reached in
    let whole = more_read st.StartRecord [] [] (strip_bom prefix) f.more first.0 refl first.1 in
    let joined : strip_bom bytes ≡ strip_bom prefix ++ f.more = ap strip_bom f.joined ∙ stripped_prefix prefix f.more le in
    let is : next_record default_config st.StartRecord [] [] (strip_bom bytes) ≡ Some whole.read =
    ap (next_record default_config st.StartRecord [] []) joined ∙ whole.is in
    let other : BeginsWith bytes (whole.read.0 ∷ []) = (whole.read.1, whole.read.2, (whole.read, is, refl, (refl, refl))) in
    let same : whole.read.0 ≡ fields = one_beginning bytes whole.read.0 fields other begins in
    omega (arith, whole.fields, ap (λ (r : Fields). length r) same, ap (λ (r : Fields). length r) first.2)
