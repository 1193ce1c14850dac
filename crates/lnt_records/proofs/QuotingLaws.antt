-- Fields that `csv` writes without quotes, and what it reads of a record that it wrote.
use Rattle.std.proofs.Common.{◌≡◌, ℕ, ◌≤◌, false, List, [], ◌∷◌, None, length, refl, arith, ne_eqb}
use Rattle.std.specs.List.{AllByRecursion, list_any}
use Rattle.csv.specs.Machine.{next_record}
use Rattle.csv.specs.Reading.{default_config}
use Rattle.csv.specs.Writing.{default_writer, field_text, needs_byte, read_back}
use Rattle.csv.specs.declared.parser.State.TheVariants as st
use Rattle.lnt_text.specs.Digits.{IsAddress, IsDecimal}
use Rattle.lnt_text.proofs.TextLaws.{FromZero, address_from_zero, decimal_from_zero}
use Rattle.lnt_records.specs.Table.{Fields}

-- ---- fields without a byte that needs quotes

abbrev pub IsQuiet : List ℕ → Type 0
IsQuiet field = list_any (needs_byte default_writer) field ≡ false

quiet_byte : (c : ℕ) → 48 ≤ c → needs_byte default_writer c ≡ false
quiet_byte c h =
    let comma = ne_eqb c 44 (λ e. omega (arith, h, e)) in
    let quote = ne_eqb c 34 (λ e. omega (arith, h, e)) in
    let return = ne_eqb c 13 (λ e. omega (arith, h, e)) in
    let feed = ne_eqb c 10 (λ e. omega (arith, h, e)) in
    rw (comma, quote, return, feed) refl

quiet_bytes : (text : List ℕ) → AllByRecursion FromZero text → IsQuiet text
quiet_bytes [] h = refl
quiet_bytes (c ∷ text) h = rw (quiet_byte c h.0, quiet_bytes text h.1) refl

pub quiet_number : (text : List ℕ) (n : ℕ) → IsDecimal text n → IsQuiet text
quiet_number text n h = quiet_bytes text (decimal_from_zero text n h)

pub quiet_address : (text : List ℕ) (n : ℕ) → IsAddress text n → IsQuiet text
quiet_address text n h = quiet_bytes text (address_from_zero text n h)

pub quiet_text : (field : List ℕ) → IsQuiet field → field_text default_writer field ≡ field
quiet_text field q = rw q refl

pub number_text : (text : List ℕ) (n : ℕ) → IsDecimal text n → field_text default_writer text ≡ text
number_text text n h = quiet_text text (quiet_number text n h)

pub address_text : (text : List ℕ) (n : ℕ) → IsAddress text n → field_text default_writer text ≡ text
address_text text n h = quiet_text text (quiet_address text n h)

-- ---- read back

-- a record of more than one field is read as it was written
pub same_back : (fields : Fields) → 2 ≤ length fields → fields ≡ read_back fields
same_back [] h = absurd (omega (arith, h))
same_back (x ∷ fields) h = refl

pub none_left : next_record default_config st.StartRecord [] [] [] ≡ None
unfolding next_record
none_left = refl
