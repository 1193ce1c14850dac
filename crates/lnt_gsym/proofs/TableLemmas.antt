-- The tables after the header.
use Rattle.std.proofs.Common.{◌≡◌, ◌∙◌, ℕ, zero, suc, ◌+◌, ◌-◌, ◌*◌, ◌^◌, ◌<◌, ◌≤◌, true, false, List, [], ◌∷◌, length, drop, Some, None}
use Rattle.std.proofs.Common.{refl, sym, ap, arith, length-drop}
use Rattle.std.specs.Prelude.{nat_lt, ◌==◌, Ok, Err}
use Rattle.std.proofs.Math.Nat.{mul-le-mul_right, mul-suc}
use Rattle.std.proofs.Math.ListN.{drop_of_length-le}
use Rattle.std.proofs.lemmas.Bool.Decides.{nat_tests}
use Rattle.lnt_wire.specs.FirstValues.{first_number}
use Rattle.lnt_wire.specs.Reading.{At}
use Rattle.lnt_wire.specs.declared.format.Order.{Order}
use Rattle.lnt_gsym.specs.GsymFields.{block, number}
use Rattle.lnt_gsym.specs.GsymFiles.{aligned, at_place, files_of, first_lower, Header}
use Rattle.lnt_gsym.specs.GsymFiles.{header_of, is_address_size, number_at, numbers_of, tables_of}
use Rattle.lnt_gsym.specs.Reading.{header_said}
use Rattle.lnt_gsym.specs.declared.header.Header.{Header as HeaderRead}
use Rattle.lnt_gsym.specs.declared.fault.GsymFault.{GsymFault}
use Rattle.lnt_gsym.specs.declared.fault.GsymReason.TheVariants.{NotInOrder}

-- Tables of numbers are small.
pub small_table : (size count : ℕ) → size < 2 ^ 8 → count < 2 ^ 32 → size * count < 2 ^ 40
small_table size count s c = let most : size * count ≤ 255 * count = mul-le-mul_right count (omega arith) in omega (arith, most, c)

-- No bytes stand at the end or above it.
pub none_there : (place : ℕ) (bytes : List ℕ) → length bytes ≤ place → drop place bytes ≡ []
none_there place bytes le = drop_of_length-le bytes le

-- ---- the first offset that is below the one before it

-- From the last offset on, with as many left, it is that of all.
pub record LowerSoFar (order : Order) (size count : ℕ) (bytes : List ℕ) (last place left : ℕ) (rest : List ℕ) : Type 0 where
  pub same : first_lower size 48 (numbers_of order size count bytes) ≡ first_lower size place (last ∷ numbers_of order size left rest)
  pub length_is : length rest ≡ size * left
  pub near : place + size * left ≤ 2 ^ 41

pub no_offset : (order : Order) (size count : ℕ) (bytes : List ℕ) → count ≡ 0 → first_lower size 48 (numbers_of order size count bytes)
    ≡ None
no_offset order size count bytes e = ap (λ n. first_lower size 48 (numbers_of order size n bytes)) e

pub less_one : (size left after length : ℕ) → left ≡ after + 1 → length ≡ size * left → length - size ≡ size * after
less_one size left after length e is =
    let more : size * left ≡ size * suc after = ap (λ n. size * n) (omega (arith, e)) in
    omega (arith, is, more, mul-suc size after)

first_lowest_there : (order : Order) (size count left : ℕ) (bytes : List ℕ) → count ≡ left + 1 → length bytes ≡ size * count → size < 2 ^ 8
    → count < 2 ^ 32 → LowerSoFar order size count bytes (first_number order size bytes) 48 left (drop size bytes)
first_lowest_there order size count left bytes e is s c = record {
  same = ap (λ n. first_lower size 48 (numbers_of order size n bytes)) (the_suc e);
  length_is = length-drop size bytes ∙ less_one size count left (length bytes) e is;
  near = let small = small_table size count s c in let less = less_one size count left (length bytes) e is
      in omega (arith, small, less, is);
}
  where
    the_suc : count ≡ left + 1 → count ≡ suc left
    the_suc e = omega (arith, e)

pub first_lowest : (order : Order) (size count left last : ℕ) (bytes rest : List ℕ) → last ≡ first_number order size bytes
    → rest ≡ drop size bytes → count ≡ left + 1 → length bytes ≡ size * count → size < 2 ^ 8 → count < 2 ^ 32
    → LowerSoFar order size count bytes last 48 left rest
first_lowest order size count left last bytes rest l r e is s c = rw (l, r) (first_lowest_there order size count left bytes e is s c)

next_lowest_there : (order : Order) (size count last place left after : ℕ) (bytes rest : List ℕ)
    → LowerSoFar order size count bytes last place left rest → left ≡ after + 1 → last ≤ first_number order size rest
    → LowerSoFar order size count bytes (first_number order size rest) (place + size) after (drop size rest)
next_lowest_there order size count last place left after bytes rest so e le =
    let more : left ≡ suc after = omega (arith, e) in
    let kept : nat_lt (first_number order size rest) last ≡ false = grind (arith, nat_tests) in
    let less : length rest - size ≡ size * after = less_one size left after (length rest) e so.length_is in
    let one : first_lower size place (last ∷ numbers_of order size left rest)
    ≡ first_lower size place (last ∷ first_number order size rest ∷ numbers_of order size after (drop size rest))
    = ap (λ n. first_lower size place (last ∷ numbers_of order size n rest)) more in
    let two : first_lower size place (last ∷ first_number order size rest ∷ numbers_of order size after (drop size rest))
    ≡ first_lower size (place + size) (first_number order size rest ∷ numbers_of order size after (drop size rest))
    = rw kept refl in
    record {
      same = so.same ∙ (one ∙ two);
      length_is = length-drop size rest ∙ less;
      near = let all : size * left ≡ size * after + size = ap (λ n. size * n) more ∙ mul-suc size after in omega (arith, all, so.near);
    }

pub next_lowest : (order : Order) (size count last place left after next up : ℕ) (bytes rest more : List ℕ)
    → LowerSoFar order size count bytes last place left rest → left ≡ after + 1 → next ≡ first_number order size rest → last ≤ next
    → up ≡ place + size → more ≡ drop size rest → LowerSoFar order size count bytes next up after more
next_lowest order size count last place left after next up bytes rest more so e n le u m =
    rw (n, u, m) (next_lowest_there order size count last place left after bytes rest so e (omega (arith, n, le)))

pub lower_found : (order : Order) (size count last place left after : ℕ) (bytes rest : List ℕ)
    → LowerSoFar order size count bytes last place left rest → left ≡ after + 1 → first_number order size rest < last
    → first_lower size 48 (numbers_of order size count bytes) ≡ Some (place + size)
lower_found order size count last place left after bytes rest so e lt =
    let more : left ≡ suc after = omega (arith, e) in
    let lower : nat_lt (first_number order size rest) last ≡ true = grind (arith, nat_tests) in
    let one : first_lower size place (last ∷ numbers_of order size left rest)
    ≡ first_lower size place (last ∷ first_number order size rest ∷ numbers_of order size after (drop size rest))
    = ap (λ n. first_lower size place (last ∷ numbers_of order size n rest)) more in
    let two : first_lower size place (last ∷ first_number order size rest ∷ numbers_of order size after (drop size rest))
    ≡ Some (place + size)
    = rw lower refl in
    so.same ∙ (one ∙ two)

pub none_lower : (order : Order) (size count last place left : ℕ) (bytes rest : List ℕ)
    → LowerSoFar order size count bytes last place left rest → left ≡ 0 → first_lower size 48 (numbers_of order size count bytes) ≡ None
none_lower order size count last place left bytes rest so e =
    so.same ∙ ap (λ n. first_lower size place (last ∷ numbers_of order size n rest)) e

-- a number of those that are left
pub one_left : (size left : ℕ) (bytes : List ℕ) → 0 < left → length bytes ≡ size * left → size ≤ length bytes
one_left size zero bytes some is = absurd (omega arith)
one_left size (suc left) bytes some is = omega (arith, is, mul-suc size left)

-- ---- the tables

pub starts_refused : (order : Order) (bytes : List ℕ) (h : Header) (fault : GsymFault)
    → block (h.address_size * h.count) (at_place order bytes 48) ≡ Err fault → tables_of order bytes h ≡ Err fault
starts_refused order bytes h fault e = rw e refl

pub order_refused : (order : Order) (bytes starts : List ℕ) (h : Header) (a : At) (place : ℕ)
    → block (h.address_size * h.count) (at_place order bytes 48) ≡ Ok (starts, a)
    → first_lower h.address_size 48 (numbers_of order h.address_size h.count starts) ≡ Some place
    → tables_of order bytes h ≡ Err (record { place = place; reason = NotInOrder })
order_refused order bytes starts h a place e f = rw (e, f) refl

pub infos_refused : (order : Order) (bytes starts : List ℕ) (h : Header) (a : At) (fault : GsymFault)
    → block (h.address_size * h.count) (at_place order bytes 48) ≡ Ok (starts, a)
    → first_lower h.address_size 48 (numbers_of order h.address_size h.count starts) ≡ None
    → block (4 * h.count) (at_place order bytes (aligned (48 + h.address_size * h.count))) ≡ Err fault → tables_of order bytes h ≡ Err fault
infos_refused order bytes starts h a fault e f g = rw (e, f, g) refl

pub count_refused : (order : Order) (bytes starts infos : List ℕ) (h : Header) (a b : At) (fault : GsymFault)
    → block (h.address_size * h.count) (at_place order bytes 48) ≡ Ok (starts, a)
    → first_lower h.address_size 48 (numbers_of order h.address_size h.count starts) ≡ None
    → block (4 * h.count) (at_place order bytes (aligned (48 + h.address_size * h.count))) ≡ Ok (infos, b) → number 4 b ≡ Err fault
    → tables_of order bytes h ≡ Err fault
count_refused order bytes starts infos h a b fault e f g i = rw (e, f, g, i) refl

pub files_refused : (order : Order) (bytes starts infos : List ℕ) (h : Header) (a b c : At) (n : ℕ) (fault : GsymFault)
    → block (h.address_size * h.count) (at_place order bytes 48) ≡ Ok (starts, a)
    → first_lower h.address_size 48 (numbers_of order h.address_size h.count starts) ≡ None
    → block (4 * h.count) (at_place order bytes (aligned (48 + h.address_size * h.count))) ≡ Ok (infos, b) → number 4 b ≡ Ok (n, c)
    → block (8 * n) c ≡ Err fault → tables_of order bytes h ≡ Err fault
files_refused order bytes starts infos h a b c n fault e f g i k = rw (e, f, g, i, k) refl

pub tables_read : (order : Order) (bytes starts infos files : List ℕ) (h : Header) (a b c d : At) (n : ℕ)
    → block (h.address_size * h.count) (at_place order bytes 48) ≡ Ok (starts, a)
    → first_lower h.address_size 48 (numbers_of order h.address_size h.count starts) ≡ None
    → block (4 * h.count) (at_place order bytes (aligned (48 + h.address_size * h.count))) ≡ Ok (infos, b) → number 4 b ≡ Ok (n, c)
    → block (8 * n) c ≡ Ok (files, d)
    → tables_of order bytes h ≡ Ok (record {
      starts = numbers_of order h.address_size h.count starts;
      infos = numbers_of order 4 h.count infos;
      files = files_of order n files;
    })
tables_read order bytes starts infos files h a b c d n e f g i k = rw (e, f, g, i, k) refl

-- ---- the header

pub header_read : (order : Order) (bytes : List ℕ) (h : HeaderRead) → 48 ≤ length bytes → number_at order bytes 4 2 ≡ 1
    → h.address_size ≡ number_at order bytes 6 1 → is_address_size h.address_size ≡ true → number_at order bytes 7 1 ≤ 20
    → h.strings_place ≡ number_at order bytes 20 4 → h.strings_size ≡ number_at order bytes 24 4
    → h.strings_place + h.strings_size ≤ length bytes → h.base ≡ number_at order bytes 8 8 → h.count ≡ number_at order bytes 16 4
    → header_of order bytes ≡ Ok (header_said bytes h)
header_read order bytes h room version size is_size uuid place strings within base count =
    let long : nat_lt (length bytes) 48 ≡ false = grind (arith, nat_tests) in
    let first : (number_at order bytes 4 2 == 1) ≡ true = grind (arith, nat_tests) in
    let fits : is_address_size (number_at order bytes 6 1) ≡ true = ap is_address_size (sym size) ∙ is_size in
    let short : nat_lt 20 (number_at order bytes 7 1) ≡ false = grind (arith, nat_tests) in
    let inside : nat_lt (length bytes) (number_at order bytes 20 4 + number_at order bytes 24 4) ≡ false
    = let sum : number_at order bytes 20 4 + number_at order bytes 24 4 ≤ length bytes = omega (arith, place, strings, within) in
    grind (arith, nat_tests) in
    rw (long, first, fits, short, inside, size, base, count, place, strings) refl
