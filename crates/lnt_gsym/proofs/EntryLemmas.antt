-- The entries of a file, one after another.
use Rattle.std.proofs.Common.{◌≡◌, ◌∙◌, ℕ, zero, suc, ◌+◌, ◌-◌, ◌*◌, ◌^◌, ◌<◌, ◌≤◌, true, false, List, [], ◌∷◌, length, drop}
use Rattle.std.proofs.Common.{refl, sym, ap, arith, length-drop}
use Rattle.std.specs.Prelude.{nat_lt}
use Rattle.lnt_wire.specs.FirstValues.{first_number}
use Rattle.lnt_wire.specs.declared.format.Order.{Order}
use Rattle.lnt_gsym.specs.GsymFiles.{numbers_of}
use Rattle.lnt_gsym.specs.GsymSpans.{less}
use Rattle.lnt_gsym.specs.Walking.{GivesEntry, next_start}
use Rattle.lnt_gsym.proofs.RowSpanLemmas.{no, yes}
use Rattle.lnt_gsym.proofs.TableLemmas.{less_one}

-- ---- taking entries

first_of : (order : Order) (size left after : ℕ) (bytes : List ℕ) → left ≡ after + 1
    → numbers_of order size left bytes ≡ first_number order size bytes ∷ numbers_of order size after (drop size bytes)
first_of order size left after bytes e = let more : left ≡ suc after = omega (arith, e) in ap (λ n. numbers_of order size n bytes) more

pub no_entry : (order : Order) (size left : ℕ) (bytes : List ℕ) → left ≡ 0 → numbers_of order size left bytes ≡ []
no_entry order size left bytes e = ap (λ n. numbers_of order size n bytes) e

pub one_entry : (order : Order) (base size left after : ℕ) (starts infos later_starts later_infos : List ℕ) (start offset place : ℕ)
    → left ≡ after + 1 → offset ≡ first_number order size starts → place ≡ first_number order 4 infos → later_starts ≡ drop size starts
    → later_infos ≡ drop 4 infos → start ≡ base + offset
    → GivesEntry
    (record { base = base; starts = numbers_of order size left starts; infos = numbers_of order 4 left infos })
    (record { base = base; starts = numbers_of order size after later_starts; infos = numbers_of order 4 after later_infos }) start place
one_entry order base size left after starts infos later_starts later_infos start offset place e o p s i is = record {
  offset = offset;
  start_is = is;
  starts = rw (o, s) (first_of order size left after starts e);
  infos = rw (p, i) (first_of order 4 left after infos e);
  base_is = refl;
}

numbers_length : (order : Order) (size count : ℕ) (bytes : List ℕ) → length (numbers_of order size count bytes) ≡ count
numbers_length order size zero bytes = refl
numbers_length order size (suc count) bytes = let rest = numbers_length order size count (drop size bytes) in omega (arith, rest)

pub fewer_entries : (order : Order) (size left after : ℕ) (bytes later : List ℕ) → left ≡ after + 1
    → length (numbers_of order size after later) < length (numbers_of order size left bytes)
fewer_entries order size left after bytes later e =
    omega (arith, e, numbers_length order size after later, numbers_length order size left bytes)

pub rest_length : (size left after : ℕ) (bytes later : List ℕ) → left ≡ after + 1 → later ≡ drop size bytes → length bytes ≡ size * left
    → length later ≡ size * after
rest_length size left after bytes later e d is = ap length d ∙ (length-drop size bytes ∙ less_one size left after (length bytes) e is)

-- ---- the next start

pub record StartsSoFar (order : Order) (base start size count left : ℕ) (starts rest : List ℕ) : Type 0 where
  pub same : next_start base start (numbers_of order size count starts) ≡ next_start base start (numbers_of order size left rest)
  pub length_is : length rest ≡ size * left

pub none_passed : (order : Order) (base start size count : ℕ) (starts : List ℕ) → length starts ≡ size * count
    → StartsSoFar order base start size count count starts starts
none_passed order base start size count starts is = record { same = refl; length_is = is }

next_of : (order : Order) (base start size left after : ℕ) (rest : List ℕ) → left ≡ after + 1
    → next_start base start (numbers_of order size left rest)
    ≡ next_start base start (first_number order size rest ∷ numbers_of order size after (drop size rest))
next_of order base start size left after rest e = ap (next_start base start) (first_of order size left after rest e)

pub one_passed : (order : Order) (base start size count left after next : ℕ) (starts rest later : List ℕ)
    → StartsSoFar order base start size count left starts rest → left ≡ after + 1 → next ≡ base + first_number order size rest
    → next ≤ start → later ≡ drop size rest → StartsSoFar order base start size count after starts later
one_passed order base start size count left after next starts rest later so e n le l =
    let skipped : nat_lt start (base + first_number order size rest)
    ≡ false = no start (base + first_number order size rest) (omega (arith, n, le)) in
    record {
      same = so.same ∙ (next_of order base start size left after rest e ∙ rw (skipped, l) refl);
      length_is = rest_length size left after rest later e l so.length_is;
    }

pub found_above : (order : Order) (base start size count left after next found : ℕ) (starts rest : List ℕ)
    → StartsSoFar order base start size count left starts rest → left ≡ after + 1 → next ≡ base + first_number order size rest
    → start < next → found ≡ less next (2 ^ 64 - 1) → found ≡ next_start base start (numbers_of order size count starts)
found_above order base start size count left after next found starts rest so e n lt f =
    let above : nat_lt start (base + first_number order size rest)
    ≡ true = yes start (base + first_number order size rest) (omega (arith, n, lt)) in
    f ∙ sym (so.same ∙ (next_of order base start size left after rest e ∙ rw (above, n) refl))

pub none_above : (order : Order) (base start size count left : ℕ) (starts rest : List ℕ)
    → StartsSoFar order base start size count left starts rest → left ≡ 0
    → next_start base start (numbers_of order size count starts) ≡ 2 ^ 64 - 1
none_above order base start size count left starts rest so e =
    so.same ∙ ap (λ n. next_start base start (numbers_of order size n rest)) e
