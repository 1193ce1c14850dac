-- The rows that are made one after another.
use Rattle.std.proofs.Common.{◌≡◌, ◌∙◌, ℕ, zero, suc, ◌+◌, ◌%◌, ◌^◌, ◌<◌, ◌≤◌, Bool, true, false, List, [], ◌∷◌, length, Option, Some, None}
use Rattle.std.proofs.Common.{refl, sym, ap, arith, subst}
use Rattle.std.specs.Prelude.{Result, Ok, Err, nat_lt, IfSome}
use Rattle.lnt_wire.specs.Reading.{At}
use Rattle.lnt_gsym.specs.GsymFields.{Read}
use Rattle.lnt_gsym.specs.GsymInfos.{line_numbers, LineNumbers, made, operation, Operation, Row, row_after, row_reason}
use Rattle.lnt_gsym.specs.GsymInfos.{rows_from, rows_of}
use Rattle.lnt_gsym.specs.Reading.{moved}
use Rattle.lnt_gsym.specs.Walking.{HasRows, left_by, LeftBy, rows_after}
use Rattle.lnt_gsym.specs.declared.fault.GsymFault.{GsymFault}
use Rattle.lnt_gsym.specs.declared.fault.GsymReason.{GsymReason}
use Rattle.lnt_gsym.specs.declared.fault.GsymReason.TheVariants.{NumberTooLarge}
use Rattle.lnt_gsym.proofs.RowLemmas.{moved_back, no_operation}
use Rattle.lnt_gsym.proofs.RowSpanLemmas.{AtLeast, no, Rising}

-- these rows, and no fault
abbrev all_of : List Row → Result (List Row) GsymFault
all_of rows = Ok rows

-- ---- the rows of the definition, which looks back

pub rows_are : (room files start : ℕ) (numbers : LineNumbers) (back : List Operation) (at : At)
    → rows_after room files numbers (row_after start numbers.first back) at ≡ rows_from room files start numbers back at
rows_are zero files start numbers back at = refl
rows_are (suc room) files start numbers back at = by_read (λ done rest. rows_are room files start numbers (done ∷ back) rest)
    (operation numbers at) refl
  where
    Same : Type 0
    Same = rows_after (suc room) files numbers (row_after start numbers.first back) at ≡ rows_from (suc room) files start numbers back at

    Next : Type 0
    Next = (done : Operation) (rest : At) → rows_after room files numbers (row_after start numbers.first (done ∷ back)) rest
        ≡ rows_from room files start numbers (done ∷ back) rest

    by_made : Next → (makes : Bool) (done : Operation) (rest : At) → done.makes_row ≡ makes → operation numbers at ≡ Ok (Some done, rest)
        → Same
    by_made next false done rest m e =
        rw (e, m, rows_after, rows_from)
        (ap (λ r. rows_after room files numbers r rest) (moved_back start numbers.first done back) ∙ next done rest)
    by_made next true done rest m e =
        rw (e, m, rows_after, rows_from)
        (ap (λ r. made at (row_reason files r) r (rows_after room files numbers r rest)) (moved_back start numbers.first done back)
        ∙ ap (made at (row_reason files (row_after start numbers.first (done ∷ back))) (row_after start numbers.first (done ∷ back)))
        (next done rest))

    by_done : Next → (read : Option Operation) (rest : At) → operation numbers at ≡ Ok (read, rest) → Same
    by_done next None rest e = rw (e, rows_after, rows_from) refl
    by_done next (Some done) rest e = by_made next done.makes_row done rest refl e

    by_read : Next → (read : Read (Option Operation)) → operation numbers at ≡ read → Same
    by_read next (Err fault) e = rw (e, rows_after, rows_from) refl
    by_read next (Ok read) e = by_done next read.0 read.1 e

-- the rows of a line table, after its head
pub table_rows : (files start : ℕ) (numbers : LineNumbers) (old at : At) (rows : List Row) → line_numbers old ≡ Ok (numbers, at)
    → rows_of files start old ≡ Ok rows
    → HasRows files numbers (record { address = start; file = 1; line = numbers.first % 2 ^ 32 }) at rows
table_rows files start numbers old at rows e is = record {
  room = suc (length at.rest);
  enough = omega arith;
  read = ap (λ r. rows_after (suc (length at.rest)) files numbers r at) (no_operation start numbers.first)
      ∙ (rows_are (suc (length at.rest)) files start numbers [] at ∙ there);
}
  where
    there : rows_from (suc (length at.rest)) files start numbers [] at ≡ Ok rows
    there = let same : rows_of files start old ≡ rows_from (suc (length at.rest)) files start numbers [] at = rw e refl in sym same ∙ is

-- a line table whose head has a fault has no rows
pub head_faulty : (files start : ℕ) (old : At) (rows : List Row) (fault : GsymFault) → line_numbers old ≡ Err fault
    → rows_of files start old ≡ Ok rows → ⊥
head_faulty files start old rows fault e is =
    let same : rows_of files start old ≡ Err fault = rw e refl in
    let two : Err fault ≡ Ok rows = sym same ∙ is in cc

-- ---- one operation

-- an operation that makes no row
pub passed : (files : ℕ) (numbers : LineNumbers) (row : Row) (done : Operation) (old new : At) (rows : List Row)
    → operation numbers old ≡ Ok (Some done, new) → done.makes_row ≡ false → length new.rest < length old.rest
    → HasRows files numbers row old rows → HasRows files numbers (moved row done) new rows
passed files numbers row done old new rows e m lt h = by_room h.room refl
  where
    by_room : (room : ℕ) → h.room ≡ room → HasRows files numbers (moved row done) new rows
    by_room zero z = absurd (omega (arith, h.enough, z))
    by_room (suc room) z =
        let same : rows_after (suc room) files numbers row old
        ≡ rows_after room files numbers (moved row done) new = rw (e, m, rows_after) refl in
        record {
          room = room;
          enough = omega (arith, h.enough, z, lt);
          read = sym same ∙ (ap (λ n. rows_after n files numbers row old) (sym z) ∙ h.read);
        }

-- a row that may not be made
never_made : (at : At) (reason : Option GsymReason) (row : Row) (rest : Result (List Row) GsymFault) (rows : List Row)
    → made at reason row rest ≡ Ok rows → reason ≡ None
never_made at (Some reason) row rest rows e = cc
never_made at None row rest rows e = refl

made_front : (at : At) (row : Row) (rest : Result (List Row) GsymFault) (rows : List Row) → made at None row rest ≡ Ok rows
    → (more : List Row) × (rows ≡ row ∷ more) × (rest ≡ Ok more)
made_front at row (Err fault) rows e = absurd (never e)
  where
    never : Err fault ≡ Ok rows → ⊥
    never e = cc
made_front at row (Ok more) rows e = (more, (cc), refl)

-- an operation that makes a row
pub gives : (files : ℕ) (numbers : LineNumbers) (row : Row) (done : Operation) (old new : At) (rows : List Row)
    → operation numbers old ≡ Ok (Some done, new) → done.makes_row ≡ true → length new.rest < length old.rest
    → HasRows files numbers row old rows
    → (row_reason files (moved row done) ≡ None) × LeftBy files numbers new (Some (moved row done)) rows
gives files numbers row done old new rows e m lt h = by_room h.room refl
  where
    by_room : (room : ℕ) → h.room ≡ room
        → (row_reason files (moved row done) ≡ None) × LeftBy files numbers new (Some (moved row done)) rows
    by_room zero z = absurd (omega (arith, h.enough, z))
    by_room (suc room) z =
        let is : made old (row_reason files (moved row done)) (moved row done) (rows_after room files numbers (moved row done) new)
        ≡ rows_after (suc room) files numbers row old
        = rw (e, m, rows_after) refl in
        let all : made old (row_reason files (moved row done)) (moved row done) (rows_after room files numbers (moved row done) new)
        ≡ Ok rows
        = is ∙ (ap (λ n. rows_after n files numbers row old) (sym z) ∙ h.read) in
        let may : row_reason files (moved row done) ≡ None
        = never_made old (row_reason files (moved row done)) (moved row done) (rows_after room files numbers
        (moved row done) new) rows all in
        let front = made_front old (moved row done) (rows_after room files numbers (moved row done) new) rows
        (ap (λ o. made old o (moved row done) (rows_after room files numbers (moved row done) new)) (sym may) ∙ all) in
        (may, (front.0, front.1, record { room = room; enough = omega (arith, h.enough, z, lt); read = front.2 }))

-- the end, and what isn't an operation
pub ends : (files : ℕ) (numbers : LineNumbers) (row : Row) (old new : At) (rows : List Row)
    → operation numbers old ≡ Ok (None, new) → HasRows files numbers row old rows → rows ≡ []
ends files numbers row old new rows e h = by_room h.room refl
  where
    by_room : (room : ℕ) → h.room ≡ room → rows ≡ []
    by_room zero z = absurd (omega (arith, h.enough, z))
    by_room (suc room) z =
        let same : rows_after (suc room) files numbers row old ≡ Ok [] = rw (e, rows_after) refl in
        let two : all_of [] ≡ Ok rows = sym same ∙ (ap (λ n. rows_after n files numbers row old) (sym z) ∙ h.read) in cc

pub faulty : (files : ℕ) (numbers : LineNumbers) (row : Row) (old : At) (rows : List Row) (fault : GsymFault)
    → operation numbers old ≡ Err fault → HasRows files numbers row old rows → ⊥
faulty files numbers row old rows fault e h = by_room h.room refl
  where
    by_room : (room : ℕ) → h.room ≡ room → ⊥
    by_room zero z = absurd (omega (arith, h.enough, z))
    by_room (suc room) z =
        let same : rows_after (suc room) files numbers row old ≡ Err fault = rw (e, rows_after) refl in
        let two : Err fault ≡ Ok rows = sym same ∙ (ap (λ n. rows_after n files numbers row old) (sym z) ∙ h.read) in cc

-- A row that may be made has an address of 64 bits.
too_far : (files : ℕ) (row : Row) → row_reason files row ≡ None → 2 ^ 64 ≤ row.address → ⊥
too_far files row none le =
    let over : nat_lt row.address (2 ^ 64) ≡ false = no row.address (2 ^ 64) le in
    let same : row_reason files row ≡ Some NumberTooLarge = rw over refl in
    let two : Some NumberTooLarge ≡ None = sym same ∙ none in cc

-- ---- the loop over operations

-- Rows that were left before are left.
abbrev pub StayLeft : LineNumbers → Row → At → Row → At → Type 0
StayLeft numbers first old row at =
    (files : ℕ) (rows : List Row) → HasRows files numbers first old rows → HasRows files numbers row at rows

pub record PassedSoFar (numbers : LineNumbers) (first : Row) (old : At) (row : Row) (at : At) : Type 0 where
  pub bound : row.address < 2 ^ 65
  pub room : length at.rest ≤ length old.rest
  pub stay : StayLeft numbers first old row at

pub none_passed : (numbers : LineNumbers) (first : Row) (old : At) → first.address < 2 ^ 65 → PassedSoFar numbers first old first old
none_passed numbers first old bound = record { bound = bound; room = omega arith; stay = λ files rows h. h }

-- an operation that was read
abbrev pub IsRead : LineNumbers → At → At → Option Operation → Operation → Type 0
IsRead numbers at new read done = (operation numbers at ≡ Ok (read, new)) × (read ≡ Some done)

is_read : (numbers : LineNumbers) (at new : At) (read : Option Operation) (done : Operation) → IsRead numbers at new read done
    → operation numbers at ≡ Ok (Some done, new)
is_read numbers at new read done e = e.0 ∙ ap (λ r. Ok (r, new)) e.1

pub one_passed : (numbers : LineNumbers) (first row next : Row) (done : Operation) (read : Option Operation) (old at new : At)
    → PassedSoFar numbers first old row at → IsRead numbers at new read done → next ≡ moved row done → done.makes_row ≡ false
    → IfSome read (λ d. d.makes_row ≡ false → d.advance ≡ 0) → length new.rest < length at.rest → PassedSoFar numbers first old next new
one_passed numbers first row next done read old at new so e n m still lt =
    let none : done.advance ≡ 0 = subst (λ r. IfSome r (λ d. d.makes_row ≡ false → d.advance ≡ 0)) e.1 still m in
    let address : next.address ≡ row.address + done.advance = ap (λ r. r.address) n in
    record {
      bound = omega (arith, so.bound, none, address);
      room = omega (arith, so.room, lt);
      stay = λ files rows h. rw n (passed files numbers row done at new rows (is_read numbers at new read done e) m lt
          (so.stay files rows h));
    }

pub one_made : (numbers : LineNumbers) (first row next : Row) (done : Operation) (read : Option Operation) (old at new : At)
    → PassedSoFar numbers first old row at → IsRead numbers at new read done → next ≡ moved row done → done.makes_row ≡ true
    → length new.rest < length at.rest
    → (files : ℕ) (rows : List Row) → HasRows files numbers first old rows → LeftBy files numbers new (Some next) rows
one_made numbers first row next done read old at new so e n m lt files rows h =
    rw n (gives files numbers row done at new rows (is_read numbers at new read done e) m lt (so.stay files rows h)).1

pub none_made : (numbers : LineNumbers) (first row next : Row) (done : Operation) (read : Option Operation) (old at new : At)
    → PassedSoFar numbers first old row at → IsRead numbers at new read done → next ≡ moved row done → done.makes_row ≡ true
    → length new.rest < length at.rest → 2 ^ 64 ≤ next.address
    → (files : ℕ) (rows : List Row) → HasRows files numbers first old rows → rows ≡ []
none_made numbers first row next done read old at new so e n m lt far files rows h =
    let address : next.address ≡ (moved row done).address = ap (λ r. r.address) n in
    absurd (too_far files (moved row done)
    (gives files numbers row done at new rows (is_read numbers at new read done e) m lt (so.stay files rows h)).0
    (omega (arith, far, address)))

pub none_left : (numbers : LineNumbers) (first row : Row) (old at new : At) (read : Option Operation)
    → PassedSoFar numbers first old row at → operation numbers at ≡ Ok (read, new) → read ≡ None → (files : ℕ) (rows : List Row)
    → HasRows files numbers first old rows → rows ≡ []
none_left numbers first row old at new read so e none files rows h =
    ends files numbers row at new rows (e ∙ ap (λ r. Ok (r, new)) none) (so.stay files rows h)

pub none_read : (numbers : LineNumbers) (first row : Row) (old at : At) (fault : GsymFault) → PassedSoFar numbers first old row at
    → operation numbers at ≡ Err fault → (files : ℕ) (rows : List Row) → HasRows files numbers first old rows → rows ≡ []
none_read numbers first row old at fault so e files rows h =
    absurd (faulty files numbers row at rows fault e (so.stay files rows h))

-- ---- the rows stand in order

-- a row that was made, and the rows after it
rising_from : (room files : ℕ) (numbers : LineNumbers) (row : Row) (at : At) (rows : List Row)
    → rows_after room files numbers row at ≡ Ok rows → AtLeast row.address rows × Rising rows
rising_from zero files numbers row at rows e = by rows e
  where
    by : (rows : List Row) → all_of [] ≡ Ok rows → AtLeast row.address rows × Rising rows
    by [] e = (tt, tt)
    by (r ∷ rows) e = absurd (never e)
      where
        never : all_of [] ≡ Ok (r ∷ rows) → ⊥
        never e = cc
rising_from (suc room) files numbers row at rows e =
    by_read (λ next rest rows. rising_from room files numbers next rest rows) (operation numbers at) refl
  where
    Next : Type 0
    Next = (next : Row) (rest : At) (rows : List Row) → rows_after room files numbers next rest ≡ Ok rows
        → AtLeast next.address rows × Rising rows

    Here : Type 0
    Here = AtLeast row.address rows × Rising rows

    lower : (n m : ℕ) (rs : List Row) → n ≤ m → AtLeast m rs → AtLeast n rs
    lower n m [] le h = tt
    lower n m (r ∷ rs) le h = omega (arith, le, h)

    front : (done : Operation) (rest : At) (may : row_reason files (moved row done) ≡ None)
        → made at (row_reason files (moved row done)) (moved row done) (rows_after room files numbers (moved row done) rest) ≡ Ok rows
        → Next → Here
    front done rest may is next =
        let parts = made_front at (moved row done) (rows_after room files numbers (moved row done) rest) rows
        (ap (λ o. made at o (moved row done) (rows_after room files numbers (moved row done) rest)) (sym may) ∙ is) in
        let le : row.address ≤ (moved row done).address = omega arith in
        subst (λ (rs : List Row). AtLeast row.address rs × Rising rs) (sym parts.1) (le, next (moved row done) rest parts.0 parts.2)

    by_made : Next → (makes : Bool) (done : Operation) (rest : At) → done.makes_row ≡ makes → operation numbers at ≡ Ok (Some done, rest)
        → Here
    by_made next false done rest m f =
        let same : rows_after (suc room) files numbers row at ≡ rows_after room files numbers (moved row done) rest
        = rw (f, m, rows_after) refl in
        let more = next (moved row done) rest rows (sym same ∙ e) in
        (lower row.address (moved row done).address rows (omega arith) more.0, more.1)
    by_made next true done rest m f =
        let same : rows_after (suc room) files numbers row at
        ≡ made at (row_reason files (moved row done)) (moved row done) (rows_after room files numbers (moved row done) rest)
        = rw (f, m, rows_after) refl in
        front done rest
        (never_made at (row_reason files (moved row done)) (moved row done) (rows_after room files numbers (moved row done) rest) rows
        (sym same ∙ e))
        (sym same ∙ e) next

    none : all_of [] ≡ Ok rows → (rs : List Row) → rs ≡ rows → Here
    none f [] g = subst (λ (rs : List Row). AtLeast row.address rs × Rising rs) g (tt, tt)
    none f (r ∷ rs) g = absurd (never (f ∙ ap Ok (sym g)))
      where
        never : all_of [] ≡ Ok (r ∷ rs) → ⊥
        never e = cc

    by_done : Next → (read : Option Operation) (rest : At) → operation numbers at ≡ Ok (read, rest) → Here
    by_done next None rest f =
        let same : rows_after (suc room) files numbers row at ≡ Ok [] = rw (f, rows_after) refl in none (sym same ∙ e) rows refl
    by_done next (Some done) rest f = by_made next done.makes_row done rest refl f

    by_read : Next → (read : Read (Option Operation)) → operation numbers at ≡ read → Here
    by_read next (Err fault) f =
        let same : rows_after (suc room) files numbers row at ≡ Err fault = rw (f, rows_after) refl in
        absurd (never (sym same ∙ e))
      where
        never : Err fault ≡ Ok rows → ⊥
        never g = cc
    by_read next (Ok read) f = by_done next read.0 read.1 f

pub rows_rise : (files start : ℕ) (at : At) (rows : List Row) → rows_of files start at ≡ Ok rows → Rising rows
rows_rise files start at rows e = by (line_numbers at) refl
  where
    by : (read : Read LineNumbers) → line_numbers at ≡ read → Rising rows
    by (Err fault) f = absurd (head_faulty files start at rows fault f e)
    by (Ok read) f =
        let has = table_rows files start read.0 at read.1 rows f e in
        (rising_from has.room files read.0 (record { address = start; file = 1; line = read.0.first % 2 ^ 32 }) read.1 rows has.read).1

pub few_left : (row : Option Row) (old new : ℕ) → old < 2 ^ 64 → IfSome row (λ r. new < old) → left_by row new ≤ 2 ^ 64
few_left None old new lt fewer = omega arith
few_left (Some row) old new lt fewer = let less : new < old = fewer in omega (arith, lt, less)
