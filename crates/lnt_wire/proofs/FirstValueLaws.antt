-- What is spelled is found by `first_value`, whatever follows. Crates above cite these.
use Rattle.std.proofs.Common.{◌≡◌, ℕ, zero, suc, ◌+◌, List, [], ◌∷◌, ◌++◌, length, take, refl, sym, ap, subst, ◌∙◌, append_assoc, arith}
use Rattle.std.proofs.lemmas.Bool.Decides.{nat_tests}
use Rattle.std.proofs.lemmas.List.{length-append}
use Rattle.std.proofs.Math.Seq.{take-append_seam, drop-append_seam}
use Rattle.byteorder.specs.Numbers.{little_number-reads_back, big_number-reads_back}
use Rattle.lnt_wire.specs.declared.format.Order.TheVariants.{Little, Big}
use Rattle.lnt_wire.specs.declared.form.FormValue.TheVariants.{Text, LineStrp, Strp, Udata, Data1, Data2, Data4, Data8, Data16}
use Rattle.lnt_wire.specs.declared.form.FormValue.TheVariants.{Block, Block1, Block2, Block4}
use Rattle.lnt_wire.specs.FirstValues.{first_number, first_leb, first_text, after_length, first_value, first_size}
use Rattle.lnt_wire.specs.FormBytes.{form_of, HasNoZero, BlockBytes, FormBytes, ValueBytes, Form, FormValue}
use Rattle.lnt_wire.specs.Leb128.{IsLeb, groups, UnsignedLeb}
use Rattle.lnt_wire.specs.Numbers.{NumberBytes, offset_size, Order, Format}
use Rattle.lnt_wire.proofs.LengthLaws.{length-number_bytes}
use Rattle.std.proofs.lemmas.Grind.{common_steps}

number_found : (order : Order) (size n : ℕ) (x more : List ℕ) → NumberBytes order size n x → first_number order size (x ++ more) ≡ n
number_found Little size n x more p =
    ap (λ (z : List ℕ). first_number Little size (z ++ more)) p.spelled ∙ little_number-reads_back size n more p.fits
number_found Big size n x more p =
    ap (λ (z : List ℕ). first_number Big size (z ++ more)) p.spelled ∙ big_number-reads_back size n more p.fits

number_size : (order : Order) (size n : ℕ) (x : List ℕ) → NumberBytes order size n x → length x ≡ size
number_size order size n x p = ap length p.spelled ∙ length-number_bytes order size n

leb_found : (x more : List ℕ) → IsLeb x → first_leb (x ++ more) ≡ x
leb_found [] more p = absurd p
leb_found (b ∷ []) more p = grind (arith, nat_tests)
leb_found (b ∷ c ∷ x) more p = let rest = leb_found (c ∷ x) more p.1 in let high = p.0 in grind (arith, nat_tests)

text_found : (t more : List ℕ) → HasNoZero t → first_text ((t ++ 0 ∷ []) ++ more) ≡ t
text_found [] more h = refl
text_found (zero ∷ t) more h = absurd (omega (arith, h.0))
text_found (suc b ∷ t) more h = ap (λ (z : List ℕ). suc b ∷ z) (text_found t more h.1)

-- The value and its size are found where the bytes begin with x, whatever more follows.
pub record IsFound (format : Format) (order : Order) (form : Form) (value : FormValue) (x more : List ℕ) : Type 0 where
  pub value_is : first_value format order form (x ++ more) ≡ value
  pub size_is : first_size format order form (x ++ more) ≡ length x

-- a block after a length that the prefix spells
record IsBlockFound (block prefix x more : List ℕ) (count : ℕ) : Type 0 where
  block_is : after_length (length prefix) count (x ++ more) ≡ block
  size_is : length prefix + count ≡ length x

block_found : (Length : ℕ → List ℕ → Type 0) (block x more : List ℕ) (count : ℕ) → (p : BlockBytes Length block x) → count ≡ length block
    → IsBlockFound block p.prefix x more count
block_found Length block x more count p count_is =
    grind (arith, common_steps, append_assoc, drop-append_seam, take-append_seam, length-append)

-- the prefix of a join begins what the join begins
prefix_begins : (Length : ℕ → List ℕ → Type 0) (block x more : List ℕ) → (p : BlockBytes Length block x)
    → x ++ more ≡ p.prefix ++ (p.back ++ more)
prefix_begins Length block x more p = ap (λ (z : List ℕ). z ++ more) p.joined ∙ append_assoc p.prefix p.back more

sized_block_found : (order : Order) (size : ℕ) (block x more : List ℕ) → (p : BlockBytes (NumberBytes order size) block x)
    → (after_length size (first_number order size (x ++ more)) (x ++ more) ≡ block)
    × (size + first_number order size (x ++ more) ≡ length x)
sized_block_found order size block x more p = grind (arith, common_steps, prefix_begins, number_found, number_size, block_found)

of_form : (format : Format) (order : Order) (value : FormValue) (x more : List ℕ) → FormBytes format order value x
    → IsFound format order (form_of value) value x more
of_form format order (Text t) x more p =
    let text : first_text (x ++ more) ≡ t = ap (λ (z : List ℕ). first_text (z ++ more)) p.joined ∙ text_found t more p.no_zero in
    record { value_is = ap Text text; size_is = omega (arith, ap length text, ap length p.joined, length-append t (0 ∷ [])) }
of_form format order (LineStrp n) x more p =
    record {
      value_is = ap LineStrp (number_found order (offset_size format) n x more p);
      size_is = sym (number_size order (offset_size format) n x p);
    }
of_form format order (Strp n) x more p =
    record {
      value_is = ap Strp (number_found order (offset_size format) n x more p);
      size_is = sym (number_size order (offset_size format) n x p);
    }
of_form format order (Udata n) x more p =
    let leb : first_leb (x ++ more) ≡ x = leb_found x more p.shape in
    record { value_is = ap (λ (z : List ℕ). Udata (groups z)) leb ∙ ap Udata (sym p.value); size_is = ap length leb }
of_form format order (Data1 n) x more p =
    record { value_is = ap Data1 (number_found order 1 n x more p); size_is = sym (number_size order 1 n x p) }
of_form format order (Data2 n) x more p =
    record { value_is = ap Data2 (number_found order 2 n x more p); size_is = sym (number_size order 2 n x p) }
of_form format order (Data4 n) x more p =
    record { value_is = ap Data4 (number_found order 4 n x more p); size_is = sym (number_size order 4 n x p) }
of_form format order (Data8 n) x more p =
    record { value_is = ap Data8 (number_found order 8 n x more p); size_is = sym (number_size order 8 n x p) }
of_form format order (Data16 t) x more p =
    record {
      value_is = ap Data16 (ap (λ (n : ℕ). take n (x ++ more)) (sym p.count_is) ∙ take-append_seam x more ∙ sym p.taken_is);
      size_is = sym p.count_is;
    }
of_form format order (Block t) x more p =
    let leb : first_leb (x ++ more) ≡ p.prefix =
    ap first_leb (prefix_begins UnsignedLeb t x more p) ∙ leb_found p.prefix (p.back ++ more) p.first.shape in
    let count : groups (first_leb (x ++ more)) ≡ length t = ap groups leb ∙ sym p.first.value in
    let found = block_found UnsignedLeb t x more (groups (first_leb (x ++ more))) p count in
    record {
      value_is = ap Block (ap (λ (z : List ℕ). after_length (length z) (groups (first_leb (x ++ more))) (x ++ more)) leb ∙ found.block_is);
      size_is = omega (arith, ap length leb, found.size_is);
    }
of_form format order (Block1 t) x more p =
    let found = sized_block_found order 1 t x more p in record { value_is = ap Block1 found.0; size_is = found.1 }
of_form format order (Block2 t) x more p =
    let found = sized_block_found order 2 t x more p in record { value_is = ap Block2 found.0; size_is = found.1 }
of_form format order (Block4 t) x more p =
    let found = sized_block_found order 4 t x more p in record { value_is = ap Block4 found.0; size_is = found.1 }

pub value_found : (format : Format) (order : Order) (form : Form) (value : FormValue) (x more : List ℕ)
    → ValueBytes format order form value x → IsFound format order form value x more
value_found format order form value x more p =
    subst (λ (f : Form). IsFound format order f value x more) p.form_is (of_form format order value x more p.spelled)
