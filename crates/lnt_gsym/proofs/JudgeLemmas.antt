-- The first fault of a file.
use Rattle.std.proofs.Common.{◌≡◌, ◌∙◌, ℕ, zero, suc, ◌+◌, ◌*◌, List, ◌∷◌, length, drop, Option, Some, None}
use Rattle.std.proofs.Common.{refl, sym, ap, arith, length-drop}
use Rattle.std.specs.Prelude.{Result, Ok, Err}
use Rattle.lnt_wire.specs.FirstValues.{first_number}
use Rattle.lnt_wire.specs.declared.format.Order.{Order}
use Rattle.lnt_gsym.specs.GsymFiles.{at_place, files_of, functions_of, gsym_of, Header, header_of, numbers_of, tables_of}
use Rattle.lnt_gsym.specs.GsymFields.{fault_of}
use Rattle.lnt_gsym.specs.GsymInfos.{Function, function_of}
use Rattle.lnt_gsym.specs.Reading.{entry_fault, tables_said}
use Rattle.lnt_gsym.specs.Spanning.{IsReadOf}
use Rattle.lnt_gsym.specs.Walking.{NamesSaid}
use Rattle.lnt_gsym.specs.declared.spans.Functions.{Functions}
use Rattle.lnt_gsym.specs.declared.fault.GsymFault.{GsymFault}
use Rattle.lnt_gsym.specs.declared.tables.Tables.{Tables as TablesRead}
use Rattle.lnt_gsym.proofs.InfoLemmas.{same_then}
use Rattle.lnt_gsym.proofs.TableLemmas.{less_one}

pub header_refused : (order : Order) (bytes : List ℕ) (fault : GsymFault) → header_of order bytes ≡ Err fault
    → fault_of (gsym_of order bytes) ≡ Some fault
header_refused order bytes fault e = rw e refl

pub no_fault : (order : Order) (bytes : List ℕ) (functions : Functions) (names : NamesSaid) → IsReadOf order bytes functions names
    → fault_of (gsym_of order bytes) ≡ None
no_fault order bytes functions names read = ap fault_of read.1

pub tables_refused : (order : Order) (bytes : List ℕ) (h : Header) (fault : GsymFault) → header_of order bytes ≡ Ok h
    → tables_of order bytes h ≡ Err fault → fault_of (gsym_of order bytes) ≡ Some fault
tables_refused order bytes h fault e f = rw (e, f) refl

pub files_length : (order : Order) (count : ℕ) (bytes : List ℕ) → length (files_of order count bytes) ≡ count
files_length order zero bytes = refl
files_length order (suc count) bytes = let rest = files_length order count (drop 8 bytes) in omega (arith, rest)

pub functions_judged : (order : Order) (bytes : List ℕ) (h : Header) (t : TablesRead) → header_of order bytes ≡ Ok h
    → tables_of order bytes h ≡ Ok (tables_said order h t)
    → fault_of (functions_of order bytes h.base t.count (numbers_of order h.address_size h.count t.starts.now)
    (numbers_of order 4 h.count t.infos.now))
    ≡ fault_of (gsym_of order bytes)
functions_judged order bytes h t e f =
    rw (e, f, files_length order t.count t.files.now)
    (sym (same_then (functions_of order bytes h.base t.count (numbers_of order h.address_size h.count t.starts.now)
    (numbers_of order 4 h.count t.infos.now))
    (λ functions. record { functions = functions; files = files_of order t.count t.files.now; strings = h.strings })))

-- ---- the loop over entries

-- The first fault of the entries from here on, of which as many are left, is that of all.
pub record EntriesSoFar (order : Order) (bytes : List ℕ) (base files size count left : ℕ) (starts infos : List ℕ)
    (all_starts all_infos : List ℕ) : Type 0 where
  pub same : fault_of (functions_of order bytes base files (numbers_of order size count all_starts) (numbers_of order 4 count all_infos))
      ≡ fault_of (functions_of order bytes base files (numbers_of order size left starts) (numbers_of order 4 left infos))
  pub starts_length : length starts ≡ size * left
  pub infos_length : length infos ≡ 4 * left

pub no_entry_yet : (order : Order) (bytes : List ℕ) (base files size count : ℕ) (starts infos : List ℕ) → length starts ≡ size * count
    → length infos ≡ 4 * count → EntriesSoFar order bytes base files size count count starts infos starts infos
no_entry_yet order bytes base files size count starts infos s i = record { same = refl; starts_length = s; infos_length = i }

-- the first of two faults, if there is one
abbrev first_of : Option GsymFault → Option GsymFault → Option GsymFault
first_of (Some fault) other = Some fault
first_of None other = other

-- The first fault of the entries that are left is that of the first one, or else of those after it.
one_entry : (order : Order) (bytes : List ℕ) (base files size left after : ℕ) (starts infos : List ℕ) → left ≡ after + 1
    → fault_of (functions_of order bytes base files (numbers_of order size left starts) (numbers_of order 4 left infos))
    ≡ first_of (entry_fault order bytes base files size starts infos)
    (fault_of (functions_of order bytes base files (numbers_of order size after (drop size starts))
    (numbers_of order 4 after (drop 4 infos))))
unfolding entry_fault
one_entry order bytes base files size left after starts infos e =
    let more : left ≡ suc after = omega (arith, e) in
    ap (λ n. fault_of (functions_of order bytes base files (numbers_of order size n starts) (numbers_of order 4 n infos))) more
    ∙ by (function_of files (base + first_number order size starts) (at_place order bytes (first_number order 4 infos))) refl
  where
    Rest : Result (List Function) GsymFault
    Rest = functions_of order bytes base files (numbers_of order size after (drop size starts)) (numbers_of order 4 after (drop 4 infos))

    by : (r : Result Function GsymFault)
        → function_of files (base + first_number order size starts) (at_place order bytes (first_number order 4 infos)) ≡ r
        → fault_of (functions_of order bytes base files (first_number order size starts ∷ numbers_of order size after (drop size starts))
        (first_number order 4 infos ∷ numbers_of order 4 after (drop 4 infos)))
        ≡ first_of (fault_of r) (fault_of Rest)
    by (Err fault) f = rw (f, functions_of) refl
    by (Ok function) f = rw (f, functions_of) (same_then Rest (λ functions. function ∷ functions))

entry_judged_there : (order : Order) (bytes : List ℕ) (base files size count left after : ℕ) (starts infos all_starts all_infos : List ℕ)
    → EntriesSoFar order bytes base files size count left starts infos all_starts all_infos → left ≡ after + 1
    → entry_fault order bytes base files size starts infos ≡ None
    → EntriesSoFar order bytes base files size count after (drop size starts) (drop 4 infos) all_starts all_infos
entry_judged_there order bytes base files size count left after starts infos all_starts all_infos so e none = record {
  same = so.same ∙ (one_entry order bytes base files size left after starts infos e ∙ rw none refl);
  starts_length = length-drop size starts ∙ less_one size left after (length starts) e so.starts_length;
  infos_length = length-drop 4 infos ∙ less_one 4 left after (length infos) e so.infos_length;
}

pub entry_judged : (order : Order) (bytes : List ℕ) (base files size count left after : ℕ)
    (starts infos later_starts later_infos all_starts all_infos : List ℕ)
    → EntriesSoFar order bytes base files size count left starts infos all_starts all_infos → left ≡ after + 1
    → entry_fault order bytes base files size starts infos ≡ None → later_starts ≡ drop size starts → later_infos ≡ drop 4 infos
    → EntriesSoFar order bytes base files size count after later_starts later_infos all_starts all_infos
entry_judged order bytes base files size count left after starts infos later_starts later_infos all_starts all_infos so e none s i =
    rw (s, i) (entry_judged_there order bytes base files size count left after starts infos all_starts all_infos so e none)

pub entry_refused : (order : Order) (bytes : List ℕ) (base files size count left after : ℕ) (starts infos all_starts all_infos : List ℕ)
    (fault : GsymFault) → EntriesSoFar order bytes base files size count left starts infos all_starts all_infos → left ≡ after + 1
    → entry_fault order bytes base files size starts infos ≡ Some fault
    → fault_of (functions_of order bytes base files (numbers_of order size count all_starts) (numbers_of order 4 count all_infos))
    ≡ Some fault
entry_refused order bytes base files size count left after starts infos all_starts all_infos fault so e some =
    so.same ∙ (one_entry order bytes base files size left after starts infos e ∙ rw some refl)

pub entries_end : (order : Order) (bytes : List ℕ) (base files size count left : ℕ) (starts infos all_starts all_infos : List ℕ)
    → EntriesSoFar order bytes base files size count left starts infos all_starts all_infos → left ≡ 0
    → fault_of (functions_of order bytes base files (numbers_of order size count all_starts) (numbers_of order 4 count all_infos)) ≡ None
entries_end order bytes base files size count left starts infos all_starts all_infos so e =
    so.same
    ∙ ap (λ n. fault_of (functions_of order bytes base files (numbers_of order size n starts) (numbers_of order 4 n infos))) e
