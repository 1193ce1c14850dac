-- The records of bytes: there is one list of all of them, and of two lists read from the start, the shorter is a prefix of
-- the longer.
use Rattle.std.proofs.Common.{◌≡◌, ◌∙◌, ℕ, ◌<◌, ◌≤◌, List, [], ◌∷◌, ◌++◌, length, refl, sym, ap, subst, None, arith, append_assoc, ⊎_elim}
use Rattle.std.proofs.Common.{length-append}
use Rattle.std.specs.List.{AllZip}
use Rattle.std.proofs.lemmas.Bool.{cases_lt}
use Rattle.csv.specs.Machine.{Read, next_record}
use Rattle.csv.specs.Reading.{Reached, default_config, strip_bom}
use Rattle.csv.specs.declared.parser.Config.{Config}
use Rattle.csv.specs.declared.parser.State.{State}
use Rattle.csv.specs.declared.parser.State.TheVariants as state
use Rattle.lnt_csv.proofs.ReadingLaws.{same_read}
use Rattle.lnt_csv.specs.Records.{BeginsWith, Fields, RecordsOf}

-- two least numbers are equal
pub same_least : (i j : ℕ) → (i < j → ⊥) → (j < i → ⊥) → i ≡ j
same_least i j below above =
    ⊎_elim (λ (lt : i < j). absurd (below lt)) (λ (le : j ≤ i). ⊎_elim (λ (lt : j < i). absurd (above lt)) (λ (ge : i ≤ j). omega arith)
    (cases_lt j i)) (cases_lt i j)

-- ---- one list of records

-- The list of all records begins with whatever records were read first.
read_prefix : (cfg : Config) (s s1 s2 : State) (xs y1 y2 : List ℕ) (prefix records : List Fields) → Reached cfg s xs prefix s1 y1
    → Reached cfg s xs records s2 y2
    → next_record cfg s2 [] [] y2 ≡ None → (past : List Fields) × (records ≡ prefix ++ past)
unfolding Reached
read_prefix cfg s s1 s2 xs y1 y2 [] records h k none = (records, refl)
read_prefix cfg s s1 s2 xs y1 y2 (r ∷ prefix) [] h k none =
    let last : next_record cfg s [] [] xs ≡ None = rw (k.0, k.1) none in
    let first = h.1 in
    absurd (cc (last, first))
read_prefix cfg s s1 s2 xs y1 y2 (r ∷ prefix) (q ∷ records) h k none =
    let one = h.1 in
    let two = k.1 in
    let same : k.0 ≡ h.0 = cc in
    let first : q ≡ r = k.2 ∙ ap (λ (p : Read). p.0) same ∙ sym h.2 in
    let rest = read_prefix cfg h.0.1 s1 s2 h.0.2 y1 y2 prefix records h.3 (subst (λ (p : Read). Reached cfg p.1 p.2 records s2 y2) same k.3)
    none in
    let past = rest.1 in
    (rest.0, cc)

pub prefix_of : (bytes : List ℕ) (prefix records : List Fields) → BeginsWith bytes prefix → RecordsOf bytes records
    → (past : List Fields) × (records ≡ prefix ++ past)
prefix_of bytes prefix records h k = read_prefix _ _ _ _ _ _ _ prefix records h.2 k.2 k.3

pub begins_all : (bytes : List ℕ) (records : List Fields) → RecordsOf bytes records → BeginsWith bytes records
begins_all bytes records h = (h.0, h.1, h.2)

same_lists : (xs ys past more : List Fields) → xs ≡ ys ++ past → ys ≡ xs ++ more → xs ≡ ys
same_lists [] [] past more e f = refl
same_lists [] (y ∷ ys) past more e f = absurd (cc e)
same_lists (x ∷ xs) [] past more e f = absurd (cc f)
same_lists (x ∷ xs) (y ∷ ys) past more e f =
    let first : x ≡ y = cc in
    let left : xs ≡ ys ++ past = cc in
    let right : ys ≡ xs ++ more = cc in
    let rest = same_lists xs ys past more left right in
    cc

pub one_list : (bytes : List ℕ) (xs ys : List Fields) → RecordsOf bytes xs → RecordsOf bytes ys → xs ≡ ys
one_list bytes xs ys h k =
    let a = prefix_of bytes ys xs (begins_all bytes ys k) h in
    let b = prefix_of bytes xs ys (begins_all bytes xs h) k in
    same_lists xs ys a.0 b.0 a.1 b.1

-- ---- records up to one

read_both : (cfg : Config) (s s1 s2 : State) (xs y1 y2 : List ℕ) (prefix records : List Fields) → Reached cfg s xs prefix s1 y1
    → Reached cfg s xs records s2 y2 → length prefix ≤ length records
    → (past : List Fields) × (records ≡ prefix ++ past)
unfolding Reached
read_both cfg s s1 s2 xs y1 y2 [] records h k le = (records, refl)
read_both cfg s s1 s2 xs y1 y2 (r ∷ prefix) [] h k le = absurd (omega arith)
read_both cfg s s1 s2 xs y1 y2 (r ∷ prefix) (q ∷ records) h k le =
    let one = h.1 in
    let two = k.1 in
    let same : k.0 ≡ h.0 = cc in
    let first : q ≡ r = k.2 ∙ ap (λ (p : Read). p.0) same ∙ sym h.2 in
    let rest = read_both cfg h.0.1 s1 s2 h.0.2 y1 y2 prefix records h.3 (subst (λ (p : Read). Reached cfg p.1 p.2 records s2 y2) same k.3)
    (omega arith) in
    let past = rest.1 in
    (rest.0, cc)

both_begin : (bytes : List ℕ) (prefix records : List Fields) → BeginsWith bytes prefix → BeginsWith bytes records
    → length prefix ≤ length records → (past : List Fields) × (records ≡ prefix ++ past)
both_begin bytes prefix records h k le = read_both _ _ _ _ _ _ _ prefix records h.2 k.2 le

-- The shorter list and the record after it begin the longer list.
pub stands_before : (bytes : List ℕ) (xs ys : List Fields) (x y : Fields) → BeginsWith bytes (xs ++ x ∷ [])
    → BeginsWith bytes (ys ++ y ∷ []) → length xs < length ys → (past : List Fields) × (ys ≡ (xs ++ x ∷ []) ++ past)
stands_before bytes xs ys x y h k lt =
    let le : length (xs ++ x ∷ []) ≤ length (ys ++ y ∷ []) =
    omega (arith, lt, length-append xs (x ∷ []), length-append ys (y ∷ [])) in
    let both = both_begin bytes (xs ++ x ∷ []) (ys ++ y ∷ []) h k le in
    shorter (xs ++ x ∷ []) both.0 ys (y ∷ []) (sym both.1) (omega (arith, lt, length-append xs (x ∷ [])))
  where
    shorter : (prefix past records more : List Fields) → prefix ++ past ≡ records ++ more → length prefix ≤ length records
        → (rest : List Fields) × (records ≡ prefix ++ rest)
    shorter [] past records more e le = (records, refl)
    shorter (r ∷ prefix) past [] more e le = absurd (omega arith)
    shorter (r ∷ prefix) past (q ∷ records) more e le =
        let heads : r ≡ q = cc in
        let tails : prefix ++ past ≡ records ++ more = cc in
        let rest = shorter prefix past records more tails (omega arith) in
        let found = rest.1 in
        (rest.0, cc)

-- Two lists of the same length are equal, and so are the records after them.
pub one_end : (bytes : List ℕ) (xs ys : List Fields) (x y : Fields) → BeginsWith bytes (xs ++ x ∷ [])
    → BeginsWith bytes (ys ++ y ∷ []) → length xs ≡ length ys → (xs ≡ ys) × (x ≡ y)
one_end bytes xs ys x y h k number =
    let le : length (xs ++ x ∷ []) ≤ length (ys ++ y ∷ []) =
    omega (arith, number, length-append xs (x ∷ []), length-append ys (y ∷ [])) in
    let both = both_begin bytes (xs ++ x ∷ []) (ys ++ y ∷ []) h k le in
    same_ends xs ys x y both.0 (both.1 ∙ append_assoc xs (x ∷ []) both.0) number
  where
    same_ends : (xs ys : List Fields) (x y : Fields) (past : List Fields) → ys ++ y ∷ [] ≡ xs ++ (x ∷ past) → length xs ≡ length ys
        → (xs ≡ ys) × (x ≡ y)
    same_ends [] [] x y past e same = let heads : y ≡ x = cc in (refl, sym heads)
    same_ends [] (b ∷ ys) x y past e same = absurd (omega arith)
    same_ends (a ∷ xs) [] x y past e same = absurd (omega arith)
    same_ends (a ∷ xs) (b ∷ ys) x y past e same =
        let heads : b ≡ a = cc in
        let tails : ys ++ y ∷ [] ≡ xs ++ (x ∷ past) = cc in
        let rest = same_ends xs ys x y past tails (omega arith) in
        let found = rest.0 in
        (cc, rest.1)

-- ---- record 0

-- a state reached after several records was reached through the first of them
first_reached : (bytes : List ℕ) (first : Fields) (more : List Fields) (after : State) (left : List ℕ)
    → Reached default_config state.StartRecord bytes (first ∷ more) after left
    → (after' : State) × (left' : List ℕ) × Reached default_config state.StartRecord bytes (first ∷ []) after' left'
unfolding Reached
first_reached bytes first more after left r = (r.0.1, r.0.2, (r.0, r.1, r.2, (refl, refl)))

pub first_begins : (bytes : List ℕ) (first : Fields) (more : List Fields) → BeginsWith bytes (first ∷ more) → BeginsWith bytes (first ∷ [])
first_begins bytes first more b = first_reached (strip_bom bytes) first more b.0 b.1 b.2

pub records_begin : (bytes : List ℕ) (first : Fields) (more : List Fields) → RecordsOf bytes (first ∷ more) → BeginsWith bytes (first ∷ [])
records_begin bytes first more r = first_reached (strip_bom bytes) first more r.0 r.1 r.2

-- Bytes have at most one record 0.
pub one_beginning : (bytes : List ℕ) (a b : Fields) → BeginsWith bytes (a ∷ []) → BeginsWith bytes (b ∷ []) → a ≡ b
unfolding Reached
one_beginning bytes a b x y =
    let one = x.2 in
    let two = y.2 in
    let same : one.0 ≡ two.0 = same_read one.0 two.0 (sym one.1 ∙ two.1) in
    one.2 ∙ ap (λ (p : Read). p.0) same ∙ sym two.2

-- ---- one more record, and what is read from it

pub zip_push : {A B : Type 0} (R : A → B → Type 0) (xs : List A) (ys : List B) (x : A) (y : B) → AllZip R xs ys → R x y
    → AllZip R (xs ++ x ∷ []) (ys ++ y ∷ [])
zip_push R [] [] x y z h = (h, tt)
zip_push R [] (b ∷ ys) x y z h = absurd z
zip_push R (a ∷ xs) [] x y z h = absurd z
zip_push R (a ∷ xs) (b ∷ ys) x y z h = (z.0, zip_push R xs ys x y z.1 h)
