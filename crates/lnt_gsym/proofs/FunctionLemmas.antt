-- The info of a function, as it is read again.
use Rattle.std.proofs.Common.{◌≡◌, ◌∙◌, ℕ, zero, suc, ◌^◌, ◌<◌, ◌≤◌, Bool, true, false, List, [], ◌∷◌, length, None}
use Rattle.std.proofs.Common.{refl, sym, ap, arith, subst}
use Rattle.std.specs.Prelude.{◌==◌, Result, Ok, Err}
use Rattle.lnt_wire.specs.Reading.{At}
use Rattle.lnt_gsym.specs.GsymFields.{number, then_read}
use Rattle.lnt_gsym.specs.GsymInfos.{Function, function_of, Part, part, Row, rows_of, tables_from}
use Rattle.lnt_gsym.specs.GsymSpans.{gate_after, gate_at, gate_with, last_after, open_gate}
use Rattle.lnt_gsym.specs.Walking.{AreLeft, count_left, IsFunction, IsLast, left_by, LeftBy, MadeSaid}
use Rattle.lnt_gsym.specs.declared.fault.GsymFault.{GsymFault}
use Rattle.lnt_gsym.specs.declared.gate.Gate.{Gate}
use Rattle.lnt_gsym.proofs.InfoLemmas.{other_number, same_number}

abbrev all_tables : List (List Row) → Result (List (List Row)) GsymFault
all_tables tables = Ok tables

-- ---- what comes of values

-- what was read before it
pub then_is : {A B : Type 0} (r : Result A GsymFault) (f : A → Result B GsymFault) (b : B) → then_read r f ≡ Ok b
    → (a : A) × (r ≡ Ok a) × (f a ≡ Ok b)
then_is (Err fault) f b e = absurd (never e)
  where
    never : Err fault ≡ Ok b → ⊥
    never e = cc
then_is (Ok a) f b e = (a, refl, e)

err_then : {A B : Type 0} (r : Result A GsymFault) (f : A → Result B GsymFault) (b : B) (fault : GsymFault) → r ≡ Err fault
    → then_read r f ≡ Ok b → ⊥
err_then r f b fault e is =
    let same : then_read r f ≡ Err fault = rw e refl in
    let two : Err fault ≡ Ok b = sym same ∙ is in cc

-- ---- the head of an info

pub size_read : (files start : ℕ) (at : At) (f : Function) (fault : GsymFault) → number 4 at ≡ Err fault
    → function_of files start at ≡ Ok f → ⊥
size_read files start at f fault e is =
    let same : function_of files start at ≡ Err fault = rw e refl in
    let two : Err fault ≡ Ok f = sym same ∙ is in cc

pub name_read : (files start size : ℕ) (at a : At) (f : Function) (fault : GsymFault) → number 4 at ≡ Ok (size, a)
    → number 4 a ≡ Err fault → function_of files start at ≡ Ok f → ⊥
name_read files start size at a f fault e g is =
    let same : function_of files start at ≡ Err fault = rw (e, g) refl in
    let two : Err fault ≡ Ok f = sym same ∙ is in cc

abbrev pub one_of : Function → Result Function GsymFault
one_of f = Ok f

-- its tables
pub record HasTables (files start size name : ℕ) (b : At) (f : Function) : Type 0 where
  pub size_is : size ≡ f.size
  pub name_is : name ≡ f.name
  pub start_is : start ≡ f.start
  pub tables : tables_from (suc (length b.rest)) files start b ≡ Ok f.tables

pub has_tables : (files start size name : ℕ) (at a b : At) (f : Function) → number 4 at ≡ Ok (size, a) → number 4 a ≡ Ok (name, b)
    → function_of files start at ≡ Ok f → HasTables files start size name b f
has_tables files start size name at a b f e g is =
    by (then_is (tables_from (suc (length b.rest)) files start b)
    (λ tables. one_of (record { start = start; size = size; name = name; tables = tables })) f (sym same ∙ is))
  where
    same : function_of files start at ≡ then_read (tables_from (suc (length b.rest)) files start b) (λ tables.
        one_of (record { start = start; size = size; name = name; tables = tables }))
    same = rw (e, g) refl

    by : (t : List (List Row)) × (tables_from (suc (length b.rest)) files start b ≡ Ok t)
        × (one_of (record { start = start; size = size; name = name; tables = t }) ≡ Ok f)
        → HasTables files start size name b f
    by found =
        let one : record { start = start; size = size; name = name; tables = found.0 } ≡ f = cc in
        record {
          size_is = ap (λ h. h.size) one;
          name_is = ap (λ h. h.name) one;
          start_is = ap (λ h. h.start) one;
          tables = found.1 ∙ ap (λ h. Ok h.tables) one;
        }

pub function_read : (files start address size name : ℕ) (gate : Gate) (rows : MadeSaid) (at a b : At) (f : Function)
    → number 4 at ≡ Ok (size, a) → number 4 a ≡ Ok (name, b)
    → ((files : ℕ) (tables : List (List Row)) → tables_from (suc (length b.rest)) files start b ≡ Ok tables
    → IsLast files address gate rows tables)
    → function_of files start at ≡ Ok f → IsFunction files address size name gate rows f
function_read files start address size name gate rows at a b f e g last is =
    let has = has_tables files start size name at a b f e g is in
    let opened = last files f.tables has.tables in
    record { size_is = has.size_is; name_is = has.name_is; gate_is = opened.gate_is; left = opened.left }

-- ---- parts

-- after the part here, tables follow
pub part_first : (room files start : ℕ) (at new : At) (p : Part) (rest : List (List Row)) → part at ≡ Ok (p, new) → p.kind ≡ 1
    → tables_from (suc room) files start at ≡ Ok rest
    → (rows : List Row) × (more : List (List Row)) × (rest ≡ rows ∷ more) × (rows_of files start p.bytes ≡ Ok rows)
    × (tables_from room files start new ≡ Ok more)
part_first room files start at new p rest e k is =
    let not_zero : (p.kind == 0) ≡ false = other_number p.kind 0 (λ z. omega (arith, k, z)) in
    let same : tables_from (suc room) files start at
    ≡ then_read (rows_of files start p.bytes) (λ rows. then_read (tables_from room files start new) (λ tables. Ok (rows ∷ tables)))
    = rw (e, not_zero, same_number p.kind 1 k, tables_from) refl in
    let first = then_is (rows_of files start p.bytes)
    (λ rows. then_read (tables_from room files start new) (λ tables. Ok (rows ∷ tables))) rest (sym same ∙ is) in
    let second = then_is (tables_from room files start new) (λ tables. Ok (first.0 ∷ tables)) rest first.2 in
    (first.0, second.0, sym (ok_same (first.0 ∷ second.0) rest second.2), first.1, second.1)
  where
    ok_same : (x y : List (List Row)) → all_tables x ≡ Ok y → x ≡ y
    ok_same x y e = cc

pub part_other : (room files start : ℕ) (at new : At) (p : Part) (rest : List (List Row)) → part at ≡ Ok (p, new)
    → (p.kind ≡ 0 → ⊥) → (p.kind ≡ 1 → ⊥)
    → tables_from (suc room) files start at ≡ Ok rest → tables_from room files start new ≡ Ok rest
part_other room files start at new p rest e z o is =
    let same : tables_from (suc room) files start at ≡ tables_from room files start new
    = rw (e, other_number p.kind 0 z, other_number p.kind 1 o, tables_from) refl in sym same ∙ is

pub part_last : (room files start : ℕ) (at new : At) (p : Part) (rest : List (List Row)) → part at ≡ Ok (p, new) → p.kind ≡ 0
    → tables_from (suc room) files start at ≡ Ok rest → rest ≡ []
part_last room files start at new p rest e z is =
    let same : tables_from (suc room) files start at ≡ all_tables [] = rw (e, same_number p.kind 0 z, tables_from) refl in
    let two : all_tables [] ≡ Ok rest = sym same ∙ is in cc

pub part_never : (room files start : ℕ) (at : At) (fault : GsymFault) (rest : List (List Row)) → part at ≡ Err fault
    → tables_from (suc room) files start at ≡ Ok rest → ⊥
part_never room files start at fault rest e is =
    let same : tables_from (suc room) files start at ≡ Err fault = rw (e, tables_from) refl in
    let two : Err fault ≡ Ok rest = sym same ∙ is in cc

-- ---- the loop over parts

-- With tables from here on, those of all have the rows of the last one, and `gate` of the others.
pub record IsOpened (files start address : ℕ) (at : At) (gate : Gate) (has_table : Bool) (rows : MadeSaid)
    (tables : List (List Row)) : Type 0 where
  pub room : ℕ
  pub enough : length at.rest < room
  pub rest : List (List Row)
  pub held : List Row
  pub read : tables_from room files start at ≡ Ok rest
  pub left : AreLeft files rows held
  pub last_is : last_after [] tables ≡ last_after held rest
  pub gate_is : gate_at address tables ≡ gate_after address gate has_table held rest

pub record OpenedSoFar (start address : ℕ) (old at : At) (gate : Gate) (has_table : Bool) (rows : MadeSaid) : Type 0 where
  pub bound : count_left rows ≤ 2 ^ 64
  pub so : (files : ℕ) (tables : List (List Row)) → tables_from (suc (length old.rest)) files start old ≡ Ok tables
      → IsOpened files start address at gate has_table rows tables

pub none_opened : (start address : ℕ) (old : At) (gate : Gate) (rows : MadeSaid) → gate ≡ open_gate → rows.row ≡ None
    → OpenedSoFar start address old old gate false rows
none_opened start address old gate rows g none = record {
  bound = subst (λ r. left_by r (length rows.at.rest) ≤ 2 ^ 64) (sym none) (omega arith);
  so = λ files tables e. record {
    room = suc (length old.rest);
    enough = omega arith;
    rest = tables;
    held = [];
    read = e;
    left = subst (λ r. LeftBy files rows.numbers rows.at r []) (sym none) refl;
    last_is = refl;
    gate_is = ap (λ o. gate_after address o false [] tables) (sym g);
  };
}

-- a room that is left for the part here
with_room : {X : Type 0} (files start address : ℕ) (at : At) (gate : Gate) (has_table : Bool) (rows : MadeSaid) (tables : List (List Row))
    (opened : IsOpened files start address at gate has_table rows tables)
    → ((room : ℕ) → length at.rest ≤ room → tables_from (suc room) files start at ≡ Ok opened.rest → X) → X
with_room {X} files start address at gate has_table rows tables opened then = by opened.room refl
  where
    by : (room : ℕ) → opened.room ≡ room → X
    by zero z = absurd (omega (arith, opened.enough, z))
    by (suc room) z = then room (omega (arith, opened.enough, z)) (ap (λ n. tables_from n files start at) (sym z) ∙ opened.read)

pub one_opened : (start address : ℕ) (old at new : At) (gate after : Gate) (has_table : Bool) (rows next : MadeSaid) (p : Part)
    → OpenedSoFar start address old at gate has_table rows
    → part at ≡ Ok (p, new) → p.kind ≡ 1 → length new.rest < length at.rest
    → ((files : ℕ) (made : List Row) → rows_of files start p.bytes ≡ Ok made → AreLeft files next made)
    → count_left next ≤ 2 ^ 64
    → ((files : ℕ) (made : List Row) → AreLeft files rows made → after ≡ gate_with address gate has_table made)
    → OpenedSoFar start address old new after true next
one_opened start address old at new gate after has_table rows next p so e k lt made bound g = record {
  bound = bound;
  so = λ files tables is.
      let opened = so.so files tables is in
      with_room files start address at gate has_table rows tables opened (λ room enough read.
      let first = part_first room files start at new p opened.rest e k read in
      record {
        room = room;
        enough = omega (arith, enough, lt);
        rest = first.1;
        held = first.0;
        read = first.4;
        left = made files first.0 first.3;
        last_is = opened.last_is ∙ ap (last_after opened.held) first.2;
        gate_is = opened.gate_is ∙ (ap (gate_after address gate has_table opened.held) first.2
            ∙ ap (λ g. gate_after address g true first.0 first.1) (sym (g files opened.held opened.left)));
      });
}

pub one_skipped : (start address : ℕ) (old at new : At) (gate : Gate) (has_table : Bool) (rows : MadeSaid) (p : Part)
    → OpenedSoFar start address old at gate has_table rows
    → part at ≡ Ok (p, new) → (p.kind ≡ 0 → ⊥) → (p.kind ≡ 1 → ⊥) → length new.rest < length at.rest
    → OpenedSoFar start address old new gate has_table rows
one_skipped start address old at new gate has_table rows p so e z o lt = record {
  bound = so.bound;
  so = λ files tables is.
      let opened = so.so files tables is in
      with_room files start address at gate has_table rows tables opened (λ room enough read. record {
        room = room;
        enough = omega (arith, enough, lt);
        rest = opened.rest;
        held = opened.held;
        read = part_other room files start at new p opened.rest e z o read;
        left = opened.left;
        last_is = opened.last_is;
        gate_is = opened.gate_is;
      });
}

pub all_opened : (start address : ℕ) (old at new : At) (gate : Gate) (has_table : Bool) (rows : MadeSaid) (p : Part)
    → OpenedSoFar start address old at gate has_table rows
    → part at ≡ Ok (p, new) → p.kind ≡ 0 → (files : ℕ) (tables : List (List Row))
    → tables_from (suc (length old.rest)) files start old ≡ Ok tables → IsLast files address gate rows tables
all_opened start address old at new gate has_table rows p so e z files tables is =
    let opened = so.so files tables is in
    with_room files start address at gate has_table rows tables opened (λ room enough read.
    let none : opened.rest ≡ [] = part_last room files start at new p opened.rest e z read in
    record {
      gate_is = sym (opened.gate_is ∙ ap (gate_after address gate has_table opened.held) none);
      left = subst (AreLeft files rows) (sym (opened.last_is ∙ ap (last_after opened.held) none)) opened.left;
    })

pub part_faulty : (start address : ℕ) (old at : At) (gate : Gate) (has_table : Bool) (rows : MadeSaid) (fault : GsymFault)
    → OpenedSoFar start address old at gate has_table rows
    → part at ≡ Err fault → (files : ℕ) (tables : List (List Row))
    → tables_from (suc (length old.rest)) files start old ≡ Ok tables → ⊥
part_faulty start address old at gate has_table rows fault so e files tables is =
    let opened = so.so files tables is in
    with_room files start address at gate has_table rows tables opened (λ room enough read. part_never room files start at fault
    opened.rest e read)

-- a line table without a first row
pub rows_faulty : (start address : ℕ) (old at new : At) (gate : Gate) (has_table : Bool) (rows : MadeSaid) (p : Part)
    → OpenedSoFar start address old at gate has_table rows
    → part at ≡ Ok (p, new) → p.kind ≡ 1
    → ((files : ℕ) (made : List Row) → rows_of files start p.bytes ≡ Ok made → ⊥) → (files : ℕ) (tables : List (List Row))
    → tables_from (suc (length old.rest)) files start old ≡ Ok tables → ⊥
rows_faulty start address old at new gate has_table rows p so e k never files tables is =
    let opened = so.so files tables is in
    with_room files start address at gate has_table rows tables opened (λ room enough read.
    let first = part_first room files start at new p opened.rest e k read in never files first.0 first.3)
