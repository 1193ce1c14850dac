-- The parts of infos.
use Rattle.std.proofs.Common.{◌≡◌, ◌∙◌, ℕ, zero, suc, ◌<◌, Bool, true, false, ◌∷◌, length, Option, Some, None}
use Rattle.std.proofs.Common.{refl, sym, ap, arith, cond}
use Rattle.std.specs.Prelude.{◌==◌, Result, Ok, Err}
use Rattle.std.proofs.lemmas.Bool.Decides.{nat_tests}
use Rattle.lnt_wire.specs.Reading.{At}
use Rattle.lnt_gsym.specs.GsymFields.{fault_of, number, then_read}
use Rattle.lnt_gsym.specs.GsymInfos.{function_of, Part, part, rows_of, tables_from}
use Rattle.lnt_gsym.specs.Reading.{part_fault, parts_fault, then_parts}
use Rattle.lnt_gsym.specs.declared.fault.GsymFault.{GsymFault}

-- ---- faults of what comes of values

pub none_then : {A B : Type 0} (r : Result A GsymFault) (f : A → Result B GsymFault) (outcome : Option GsymFault) → fault_of r ≡ None
    → ((value : A) → fault_of (f value) ≡ outcome) → fault_of (then_read r f) ≡ outcome
none_then (Err fault) f outcome e all = cc
none_then (Ok value) f outcome e all = all value

pub some_then : {A B : Type 0} (r : Result A GsymFault) (f : A → Result B GsymFault) (fault : GsymFault) → fault_of r ≡ Some fault
    → fault_of (then_read r f) ≡ Some fault
some_then (Err fault) f other e = e
some_then (Ok value) f fault e = cc

pub same_then : {A B : Type 0} (r : Result A GsymFault) (f : A → B) → fault_of (then_read r (λ value. Ok (f value))) ≡ fault_of r
same_then (Err fault) f = refl
same_then (Ok value) f = refl

-- ---- a part

pub same_number : (n m : ℕ) → n ≡ m → (n == m) ≡ true
same_number n m e = grind (arith, nat_tests)

pub other_number : (n m : ℕ) → (n ≡ m → ⊥) → (n == m) ≡ false
other_number n m e = grind (arith, nat_tests)

pub part_refused : (room files start : ℕ) (old : At) (fault : GsymFault) → part old ≡ Err fault
    → parts_fault (suc room) files start old ≡ Some fault
unfolding parts_fault
part_refused room files start old fault e = rw (e, tables_from) refl

-- the end
pub part_ends : (room files start : ℕ) (old new : At) (p : Part) → part old ≡ Ok (p, new) → p.kind ≡ 0
    → parts_fault (suc room) files start old ≡ None
unfolding parts_fault
part_ends room files start old new p e k = rw (e, same_number p.kind 0 k, tables_from) refl

-- another part, which has no fault
pub part_passed : (room files start : ℕ) (old new : At) (p : Part) → part old ≡ Ok (p, new) → (p.kind ≡ 0 → ⊥)
    → part_fault files start p ≡ None → parts_fault (suc room) files start old ≡ parts_fault room files start new
unfolding parts_fault part_fault
part_passed room files start old new p e goes_on none = by (p.kind == 1) refl
  where
    Next : Type 0
    Next = fault_of (tables_from (suc room) files start old) ≡ fault_of (tables_from room files start new)

    by : (t : Bool) → (p.kind == 1) ≡ t → Next
    by false k = rw (e, other_number p.kind 0 goes_on, k, tables_from) refl
    by true k =
        let judged : fault_of (rows_of files start p.bytes) ≡ None
        = ap (λ t. cond t (fault_of (rows_of files start p.bytes)) None) (sym k) ∙ none in
        rw (e, other_number p.kind 0 goes_on, k, tables_from)
        (none_then (rows_of files start p.bytes) (λ rows. then_read (tables_from room files start new) (λ tables. Ok (rows ∷ tables)))
        (fault_of (tables_from room files start new)) judged (λ rows. same_then (tables_from room files start new)
        (λ tables. rows ∷ tables)))

-- another, which has one
pub part_faulty : (room files start : ℕ) (old new : At) (p : Part) (fault : GsymFault) → part old ≡ Ok (p, new) → (p.kind ≡ 0 → ⊥)
    → part_fault files start p ≡ Some fault → parts_fault (suc room) files start old ≡ Some fault
unfolding parts_fault part_fault
part_faulty room files start old new p fault e goes_on some = by (p.kind == 1) refl
  where
    by : (t : Bool) → (p.kind == 1) ≡ t → fault_of (tables_from (suc room) files start old) ≡ Some fault
    by false k =
        let none : None ≡ Some fault = ap (λ t. cond t (fault_of (rows_of files start p.bytes)) None) (sym k) ∙ some in cc
    by true k =
        let judged : fault_of (rows_of files start p.bytes) ≡ Some fault
        = ap (λ t. cond t (fault_of (rows_of files start p.bytes)) None) (sym k) ∙ some in
        rw (e, other_number p.kind 0 goes_on, k, tables_from)
        (some_then (rows_of files start p.bytes) (λ rows. then_read (tables_from room files start new) (λ tables. Ok (rows ∷ tables)))
        fault judged)

-- ---- the loop over parts

-- The first fault of the parts from here on is that of all.
pub record JudgedSoFar (files start : ℕ) (old at : At) : Type 0 where
  pub room : ℕ
  pub enough : length at.rest < room
  pub same : parts_fault (suc (length old.rest)) files start old ≡ parts_fault room files start at

pub none_judged : (files start : ℕ) (old : At) → JudgedSoFar files start old old
none_judged files start old = record { room = suc (length old.rest); enough = omega arith; same = refl }

pub one_judged : (files start : ℕ) (old at new : At) (more : Bool) → JudgedSoFar files start old at
    → ((room : ℕ) → parts_fault (suc room) files start at ≡ then_parts more room files start new) → more ≡ true
    → length new.rest < length at.rest → JudgedSoFar files start old new
one_judged files start old at new more so step e lt = by_room so.room refl
  where
    by_room : (room : ℕ) → so.room ≡ room → JudgedSoFar files start old new
    by_room zero z = absurd (omega (arith, so.enough, z))
    by_room (suc room) z =
        record {
          room = room;
          enough = omega (arith, so.enough, z);
          same = so.same ∙ (ap (λ n. parts_fault n files start at) z ∙ (step room ∙ ap (λ t. then_parts t room files start new) e));
        }

pub judging_ends : (files start : ℕ) (old at : At) (outcome : Option GsymFault) → JudgedSoFar files start old at
    → ((room : ℕ) → parts_fault (suc room) files start at ≡ outcome)
    → parts_fault (suc (length old.rest)) files start old ≡ outcome
judging_ends files start old at outcome so step = by_room so.room refl
  where
    by_room : (room : ℕ) → so.room ≡ room → parts_fault (suc (length old.rest)) files start old ≡ outcome
    by_room zero z = absurd (omega (arith, so.enough, z))
    by_room (suc room) z = so.same ∙ (ap (λ n. parts_fault n files start at) z ∙ step room)

pub all_judged : (files start : ℕ) (old at new : At) (more : Bool) → JudgedSoFar files start old at
    → ((room : ℕ) → parts_fault (suc room) files start at ≡ then_parts more room files start new) → more ≡ false
    → parts_fault (suc (length old.rest)) files start old ≡ None
all_judged files start old at new more so step e =
    judging_ends files start old at None so (λ room. step room ∙ ap (λ t. then_parts t room files start new) e)

-- ---- an info

pub size_refused : (files start : ℕ) (old : At) (fault : GsymFault) → number 4 old ≡ Err fault
    → fault_of (function_of files start old) ≡ Some fault
size_refused files start old fault e = rw e refl

pub name_refused : (files start size : ℕ) (old a : At) (fault : GsymFault) → number 4 old ≡ Ok (size, a) → number 4 a ≡ Err fault
    → fault_of (function_of files start old) ≡ Some fault
name_refused files start size old a fault e f = rw (e, f) refl

pub parts_judged : (files start size name : ℕ) (old a b : At) → number 4 old ≡ Ok (size, a) → number 4 a ≡ Ok (name, b)
    → parts_fault (suc (length b.rest)) files start b ≡ fault_of (function_of files start old)
unfolding parts_fault
parts_judged files start size name old a b e f =
    rw (e, f) (sym (same_then (tables_from (suc (length b.rest)) files start b)
    (λ tables. record { start = start; size = size; name = name; tables = tables })))
