-- Fixed-width numbers: what byteorder reads is spelled by the bytes, and no other number is.
use Rattle.std.proofs.Common.{◌≡◌, ℕ, ◌<◌, List, length, get_or, sym, arith}
use Rattle.std.proofs.lemmas.Nat.{le_bytes_2, be_bytes_2, le_bytes_4, be_bytes_4, le_bytes_8, be_bytes_8}
use Rattle.byteorder.specs.Endian.{little_number, big_number}
use Rattle.lnt_wire.specs.declared.format.Order.TheVariants.{Little, Big}
use Rattle.lnt_wire.specs.Numbers.{NumberBytes, Order}
use Rattle.std.proofs.lemmas.Grind.{common_steps}

-- what byteorder reads
abbrev pub number_in : Order → ℕ → List ℕ → ℕ
number_in Little size bytes = little_number size bytes
number_in Big size bytes = big_number size bytes

-- each item is a byte
abbrev pub AreBytes : List ℕ → Type 0
AreBytes bytes = (i : ℕ) → get_or bytes i 0 < 256

pub number_read_2 : (order : Order) (n : ℕ) (bytes : List ℕ) → length bytes ≡ 2 → AreBytes bytes → n ≡ number_in order 2 bytes
    → NumberBytes order 2 n bytes
number_read_2 order n bytes len are is = grind (arith, common_steps, le_bytes_2, be_bytes_2)

pub number_read_4 : (order : Order) (n : ℕ) (bytes : List ℕ) → length bytes ≡ 4 → AreBytes bytes → n ≡ number_in order 4 bytes
    → NumberBytes order 4 n bytes
number_read_4 order n bytes len are is = grind (arith, common_steps, le_bytes_4, be_bytes_4)

pub number_read_8 : (order : Order) (n : ℕ) (bytes : List ℕ) → length bytes ≡ 8 → AreBytes bytes → n ≡ number_in order 8 bytes
    → NumberBytes order 8 n bytes
number_read_8 Little n bytes len are is =
    record {
      fits = omega (arith, are 0, are 1, are 2, are 3, are 4, are 5, are 6, are 7);
      spelled = sym (le_bytes_8 bytes n len are (omega arith));
    }
number_read_8 Big n bytes len are is =
    record {
      fits = omega (arith, are 0, are 1, are 2, are 3, are 4, are 5, are 6, are 7);
      spelled = sym (be_bytes_8 bytes n len are (omega arith));
    }

-- one byte spells itself
pub one_byte : (order : Order) (bytes : List ℕ) → length bytes ≡ 1 → get_or bytes 0 0 < 256 → NumberBytes order 1 (get_or bytes 0 0) bytes
one_byte order bytes len lt = grind (arith, common_steps)
