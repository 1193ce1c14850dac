-- Records are read one by one from bytes in memory.
use Rattle.std.proofs.Common.{Bor, ◌≡◌, ◌∙◌, ℕ, ◌<◌, ◌≤◌, Bool, true, false, List, [], ◌∷◌, ◌++◌, Option, Some, None, length}
use Rattle.std.proofs.Common.{length-append, refl, sym, ap, subst, arith, inl, MatchBool, ◌==◌, if◌then◌else◌}
use Rattle.csv.specs.Machine.{Read, after_end, ends_at_end, ends_with, field_after, fields_after, in_field, is_end, next_record}
use Rattle.csv.specs.Machine.{start_field, start_record, step}
use Rattle.csv.specs.Reading.{NextIs, Reached, ReadRecord, default_config, is_bom, is_flexible, pending_of, reader_state, strip_bom}
use Rattle.csv.specs.Reading.{took_first}
use Rattle.csv.specs.declared.parser.Action.{Action}
use Rattle.csv.specs.declared.parser.Action.TheVariants as act
use Rattle.csv.specs.declared.parser.State.{State}
use Rattle.csv.specs.declared.parser.State.TheVariants as st
use Rattle.csv.specs.declared.parser.Terminator.TheVariants as term
use Rattle.csv.proofs.ReadFacts.{rows-end, rows-more}
use Rattle.lnt_csv.specs.Reading.{BytesReader, HasRead, bytes_left, known_length}
use Rattle.lnt_csv.specs.Records.{BeginsWith, Fields, RecordsOf}

-- ---- a record takes at least one byte

-- If this byte ends a record, the next state is between two records.
abbrev EndsBetween : State × Action → Type 0
EndsBetween p = is_end p.1 ≡ true → ends_at_end p.0 ≡ false

by_test : (b : Bool) (p q : State × Action) → EndsBetween p → EndsBetween q → EndsBetween (if b then p else q)
by_test true p q h k = h
by_test false p q h k = k

after_ends : (c : ℕ) → ends_at_end (after_end term.CRLF c) ≡ false
after_ends c = by (c == 13)
  where
    by : (b : Bool) → ends_at_end (if b then st.AfterCr else st.StartRecord) ≡ false
    by true = refl
    by false = refl

in_field_ends : (c : ℕ) → EndsBetween (in_field default_config c)
in_field_ends c =
    by_test (c == 44) (st.StartField, act.EndField) _ (λ e. absurd (cc e))
    (by_test (ends_with term.CRLF c) (after_end term.CRLF c, act.EndRecord) (st.InField, act.Copy) (λ e. after_ends c) (λ e. absurd (cc e)))

start_field_ends : (c : ℕ) → EndsBetween (start_field default_config c)
start_field_ends c = by_test (c == 34) (st.InQuoted, act.Skip) (in_field default_config c) (λ e. absurd (cc e)) (in_field_ends c)

start_record_ends : (c : ℕ) → EndsBetween (start_record default_config c)
start_record_ends c =
    by_test (ends_with term.CRLF c) (st.StartRecord, act.Skip) (start_field default_config c) (λ e. absurd (cc e)) (start_field_ends c)

step_ends : (s : State) (c : ℕ) → EndsBetween (step default_config s c)
step_ends st.StartRecord c = start_record_ends c
step_ends st.StartField c = start_field_ends c
step_ends st.InField c = in_field_ends c
step_ends st.InQuoted c = by_test (c == 34) (st.AfterQuote, act.Skip) (st.InQuoted, act.Copy) (λ e. absurd (cc e)) (λ e. absurd (cc e))
step_ends st.InEscape c = λ e. absurd (cc e)
step_ends st.AfterQuote c = by_test (c == 34) (st.InQuoted, act.Copy) (in_field default_config c) (λ e. absurd (cc e)) (in_field_ends c)
step_ends st.InComment c = by_test (c == 10) (st.StartRecord, act.Skip) (st.InComment, act.Skip) (λ e. absurd (cc e)) (λ e. absurd (cc e))
step_ends st.AfterCr c =
    by_test (c == 10) (st.StartRecord, act.Skip) (start_record default_config c) (λ e. absurd (cc e)) (start_record_ends c)

-- the bytes that are left after a record
pub record Left (s : State) (bytes : List ℕ) (p : Read) : Type 0 where
  pub between : ends_at_end p.1 ≡ false
  pub no_more : length p.2 ≤ length bytes
  pub fewer : ends_at_end s ≡ false → length p.2 < length bytes

left_some : (s : State) (bytes : List ℕ) (p q : Read) → q ≡ p → Left s bytes q → Left s bytes p
left_some s bytes p q e h = subst (Left s bytes) e h

pub same_read : (p q : Read) → Some p ≡ Some q → p ≡ q
same_read p q e = cc

pub record_left : (s : State) (fields : Fields) (field bytes : List ℕ) (p : Read) → next_record default_config s fields field bytes ≡ Some p
    → Left s bytes p
unfolding next_record
record_left s fields field [] p e = by (ends_at_end s) refl e
  where
    by : (b : Bool) → ends_at_end s ≡ b → (if b then Some (fields ++ (field ∷ []), st.StartRecord, []) else None) ≡ Some p → Left s [] p
    by true t e = left_some s [] p (fields ++ (field ∷ []), st.StartRecord, []) (same_read _ _ e)
        (record { between = refl; no_more = omega arith; fewer = λ f. absurd (cc (t, f)) })
    by false t e = absurd (cc e)
record_left s fields field (c ∷ bytes) p e =
    by (is_end (step default_config s c).1) refl e
    (record_left (step default_config s c).0 (fields_after (step default_config s c).1 fields field)
    (field_after (step default_config s c).1 c field) bytes p)
  where
    by : (b : Bool) → is_end (step default_config s c).1 ≡ b
        → (if b then Some (fields_after (step default_config s c).1 fields field, (step default_config s c).0, bytes)
        else next_record default_config (step default_config s c).0 (fields_after (step default_config s c).1 fields field)
        (field_after (step default_config s c).1 c field) bytes) ≡ Some p
        → (next_record default_config (step default_config s c).0 (fields_after (step default_config s c).1 fields field)
        (field_after (step default_config s c).1 c field) bytes ≡ Some p
        → Left (step default_config s c).0 bytes p)
        → Left s (c ∷ bytes) p
    by true t e more = left_some s (c ∷ bytes) p _ (same_read _ _ e)
        (record { between = step_ends s c t; no_more = omega arith; fewer = λ f. omega arith })
    by false t e more = let rest = more e in
        record { between = rest.between; no_more = omega (arith, rest.no_more); fewer = λ f. omega (arith, rest.no_more) }

-- ---- a reader's next record

next_left : (s after : State) (fields : Fields) (rest bytes : List ℕ)
    → NextIs (next_record default_config s [] [] bytes) true fields after rest → ends_at_end s ≡ false
    → (length rest < length bytes) × (ends_at_end after ≡ false)
next_left s after fields rest bytes h e = by (next_record default_config s [] [] bytes) refl h
  where
    by : (o : Option Read) → next_record default_config s [] [] bytes ≡ o → NextIs o true fields after rest
        → (length rest < length bytes) × (ends_at_end after ≡ false)
    by None t h = absurd (cc h)
    by (Some p) t h = let left = record_left s [] [] bytes p t in rw (h.2, h.3) (left.fewer e, left.between)

abbrev known : Bor (List ℕ) → Option (List ℕ)
known s = Some s.now

-- one more record after those read so far
read_step : (old new : BytesReader) (fields : Fields) (bytes : List ℕ) (records : List Fields) → (h : HasRead old bytes records)
    → ReadRecord known old new true fields
    → (z : List ℕ) → bytes_left new ≡ Some z → (length z < length h.rest) × (ends_at_end (reader_state new) ≡ false)
read_step old new fields bytes records h r z e =
    let pending : pending_of (known new.rdr) new ≡ Some z = rw r.1 at e in
    let next = rw (h.config, h.left, pending) at r.0 in
    next_left old.state new.state fields z h.rest next h.between

pub more_read : (old new : BytesReader) (fields : Fields) (found : Bool) (bytes : List ℕ) (records : List Fields)
    → HasRead old bytes records → took_first new ≡ true
    → is_flexible new ≡ is_flexible old → ReadRecord known old new found fields
    → MatchBool found (HasRead new bytes (records ++ fields ∷ [])) (RecordsOf bytes records)
more_read old new fields true bytes records h took any r =
    let m = rows-more known old new fields default_config st.StartRecord (strip_bom bytes) h.rest records h.config h.left h.reached r in
    let left = read_step old new fields bytes records h r m.0 m.1 in
    record {
      config = r.2 ∙ h.config;
      flexible = any ∙ h.flexible;
      trim = r.3 ∙ h.trim;
      ready = inl took;
      between = left.1;
      rest = m.0;
      left = m.1;
      reached = m.2;
      few = omega (arith, h.few, left.0, length-append records (fields ∷ []));
    }
more_read old new fields false bytes records h took any r =
    (old.state, h.rest, h.reached, rows-end known old new fields default_config h.rest h.config h.left r)

pub less_left : (old new : BytesReader) (fields : Fields) (found : Bool) (bytes : List ℕ) (records : List Fields)
    → HasRead old bytes records → took_first new ≡ true
    → ReadRecord known old new found fields → found ≡ true → known_length (bytes_left new) < known_length (bytes_left old)
less_left old new fields true bytes records h took r e =
    let m = rows-more known old new fields default_config st.StartRecord (strip_bom bytes) h.rest records h.config h.left h.reached r in
    rw (m.1, h.left) (read_step old new fields bytes records h r m.0 m.1).0
less_left old new fields false bytes records h took r e = absurd (cc e)

-- ---- the beginning

pub bom_stripped : (bytes : List ℕ) → length (strip_bom bytes) ≤ length bytes
unfolding strip_bom
bom_stripped [] = omega arith
bom_stripped (a ∷ []) = omega arith
bom_stripped (a ∷ b ∷ []) = omega arith
bom_stripped (a ∷ b ∷ c ∷ rest) = by (is_bom a b c)
  where
    by : (t : Bool) → length (if t then rest else a ∷ b ∷ c ∷ rest) ≤ length (a ∷ b ∷ c ∷ rest)
    by true = omega arith
    by false = omega arith

-- ---- record 0

pub begins : (reader : BytesReader) (bytes : List ℕ) (records : List Fields) → HasRead reader bytes records → BeginsWith bytes records
begins reader bytes records h = (reader_state reader, h.rest, h.reached)

pub no_record : (bytes : List ℕ) (fields : Fields) → RecordsOf bytes [] → BeginsWith bytes (fields ∷ []) → ⊥
unfolding Reached
no_record bytes fields none x =
    let reached = none.2 in
    let first = x.2 in
    let last : next_record default_config st.StartRecord [] [] (strip_bom bytes) ≡ None = rw (reached.0, reached.1) none.3 in
    let some = first.1 in
    cc (last, some)
