-- Rows cut into sequences, one row at a time.
use Rattle.std.proofs.Common.{◌≡◌, ◌≤◌, Bool, true, false, cond, List, [], ◌∷◌, ◌++◌, length, refl, sym, ap, ◌∙◌, append_assoc, arith}
use Rattle.std.specs.List.{AllByRecursion}
use Rattle.std.proofs.lemmas.List.{append-nil, length-append}
use Rattle.lnt_machine.specs.Matrix.{joined_rows, onto_first, sequences_of, Row, Sequence}
use Rattle.lnt_machine.specs.Cuts.{are_some, AreOpen, IsEnded, IsCut}

pub cut_none : IsCut [] [] []
cut_none = record { joined = refl; each = tt; past = tt }

pub all-append : {X : Type 0} (P : X → Type 0) (xs : List X) (x : X) → AllByRecursion P xs → P x → AllByRecursion P (xs ++ x ∷ [])
all-append P [] x all here = (here, tt)
all-append P (y ∷ xs) x all here = (all.0, all-append P xs x all.1 here)

joined_rows-append : (ended : List Sequence) (sequence : Sequence)
    → joined_rows (ended ++ sequence ∷ []) ≡ joined_rows ended ++ sequence.rows
joined_rows-append [] sequence = append-nil sequence.rows
joined_rows-append (first ∷ ended) sequence =
    ap (λ (rows : List Row). first.rows ++ rows) (joined_rows-append ended sequence)
    ∙ sym (append_assoc first.rows (joined_rows ended) sequence.rows)

-- one more row that doesn't end its sequence
pub cut_more : (rows left : List Row) (ended : List Sequence) (row : Row) → IsCut rows ended left → row.end_sequence ≡ false
    → IsCut (rows ++ row ∷ []) ended (left ++ row ∷ [])
cut_more rows left ended row cut goes_on = record {
  joined = ap (λ (list : List Row). list ++ row ∷ []) cut.joined ∙ append_assoc (joined_rows ended) left (row ∷ []);
  each = cut.each;
  past = all-append (λ r. r.end_sequence ≡ false) left row cut.past goes_on;
}

-- one more row, which ends its sequence
pub cut_end : (rows left : List Row) (ended : List Sequence) (row : Row) → IsCut rows ended left → row.end_sequence ≡ true
    → IsCut (rows ++ row ∷ []) (ended ++ record { rows = left ++ row ∷ [] } ∷ []) []
cut_end rows left ended row cut ends =
    let sequence : Sequence = record { rows = left ++ row ∷ [] } in
    record {
      joined = ap (λ (list : List Row). list ++ row ∷ []) cut.joined ∙ append_assoc (joined_rows ended) left (row ∷ [])
          ∙ sym (joined_rows-append ended sequence) ∙ sym (append-nil (joined_rows (ended ++ sequence ∷ [])));
      each = all-append IsEnded ended sequence cut.each
          (record { body = left; last = row; rows_are = refl; body_open = cut.past; ends = ends });
      past = tt;
    }

-- where a row was added there is one
pub some_after : (rows : List Row) (row : Row) → are_some (rows ++ row ∷ []) ≡ true
some_after [] row = refl
some_after (first ∷ rows) row = refl

-- ---- the cut is that of the definition

sequences_of-open : (rows : List Row) → AreOpen rows → sequences_of rows ≡ []
sequences_of-open [] o = refl
sequences_of-open (row ∷ rows) o = rw (o.0, sequences_of-open rows o.1) refl

sequences_of-ended : (body more : List Row) (last : Row) → AreOpen body → last.end_sequence ≡ true
    → sequences_of (body ++ last ∷ more) ≡ record { rows = body ++ last ∷ [] } ∷ sequences_of more
sequences_of-ended [] more last o ends = rw ends refl
sequences_of-ended (row ∷ body) more last o ends = rw (o.0, sequences_of-ended body more last o.1 ends) refl

sequences_of-joined : (ended : List Sequence) (left : List Row) → AllByRecursion IsEnded ended → AreOpen left
    → sequences_of (joined_rows ended ++ left) ≡ ended
sequences_of-joined [] left each past = sequences_of-open left past
sequences_of-joined (sequence ∷ ended) left (first, each) past =
    let more = joined_rows ended ++ left in
    let parts : (sequence.rows ++ joined_rows ended) ++ left ≡ first.body ++ first.last ∷ more =
    ap (λ (rows : List Row). (rows ++ joined_rows ended) ++ left) first.rows_are
    ∙ append_assoc (first.body ++ first.last ∷ []) (joined_rows ended) left ∙ append_assoc first.body (first.last ∷ []) more in
    ap sequences_of parts ∙ sequences_of-ended first.body more first.last first.body_open first.ends
    ∙ ap (λ (sequences : List Sequence). record { rows = first.body ++ first.last ∷ [] } ∷ sequences)
    (sequences_of-joined ended left each past)
    ∙ ap (λ (rows : List Row). record { rows = rows } ∷ ended) (sym first.rows_are)

pub cut_is : (rows left : List Row) (ended : List Sequence) → IsCut rows ended left → sequences_of rows ≡ ended
cut_is rows left ended cut = ap sequences_of cut.joined ∙ sequences_of-joined ended left cut.each cut.past

-- no row is left after the last end row
pub cut_closed : (rows : List Row) (ended : List Sequence) → IsCut rows ended [] → joined_rows (sequences_of rows) ≡ rows
cut_closed rows ended cut = ap joined_rows (cut_is rows [] ended cut) ∙ sym (cut.joined ∙ append-nil (joined_rows ended))

-- sequences have no rows but those that were cut
pub joined_within : (rows : List Row) → length (joined_rows (sequences_of rows)) ≤ length rows
joined_within [] = omega arith
joined_within (row ∷ rows) = by_end row.end_sequence (sequences_of rows) (joined_within rows)
  where
    by_end : (ends : Bool) (sequences : List Sequence) → length (joined_rows sequences) ≤ length rows
        → length (joined_rows (cond ends (record { rows = row ∷ [] } ∷ sequences) (onto_first row sequences))) ≤ length (row ∷ rows)
    by_end true sequences le = omega (arith, le)
    by_end false [] le = omega arith
    by_end false (sequence ∷ sequences) le = omega (arith, le)

-- a row is left
pub cut_open : (rows left : List Row) (ended : List Sequence) (row : Row) → IsCut rows ended (row ∷ left)
    → joined_rows (sequences_of rows) ≡ rows → ⊥
cut_open rows left ended row cut closed =
    let all : joined_rows ended ≡ joined_rows ended ++ row ∷ left = ap joined_rows (sym (cut_is rows (row ∷ left) ended cut)) ∙ closed
    ∙ cut.joined in
    omega (arith, ap length all, length-append (joined_rows ended) (row ∷ left))

-- ---- each row

abbrev pub EachRow : (Row → Type 0) → Sequence → Type 0
EachRow P sequence = AllByRecursion P sequence.rows

each_onto : (P : Row → Type 0) (row : Row) (sequences : List Sequence) → P row → AllByRecursion (EachRow P) sequences
    → AllByRecursion (EachRow P) (onto_first row sequences)
each_onto P row [] here rest = tt
each_onto P row (sequence ∷ sequences) here rest = ((here, rest.0), rest.1)

-- what holds of each row holds of each row of their sequences
pub each_cut : (P : Row → Type 0) (rows : List Row) → AllByRecursion P rows → AllByRecursion (EachRow P) (sequences_of rows)
each_cut P [] all = tt
each_cut P (row ∷ rows) all = by_end row.end_sequence (each_cut P rows all.1)
  where
    by_end : (ends : Bool) → AllByRecursion (EachRow P) (sequences_of rows)
        → AllByRecursion (EachRow P) (cond ends (record { rows = row ∷ [] } ∷ sequences_of rows) (onto_first row (sequences_of rows)))
    by_end true rest = ((all.0, tt), rest)
    by_end false rest = each_onto P row (sequences_of rows) all.0 rest
