-- Numbers and values in range have a spelling, and one than which none is shorter.
use Rattle.std.proofs.Common.{ℕ, zero, suc, ◌+◌, ◌-◌, ◌/◌, ◌%◌, ◌^◌, ◌<◌, ◌≤◌, List, [], ◌∷◌, ◌++◌, length, refl, ap, arith, ⊎_elim, ℤ, pos}
use Rattle.std.proofs.Common.{negsuc, FitsSigned, w64, length-append}
use Rattle.std.proofs.lemmas.Int.{ints}
use Rattle.std.proofs.lemmas.Bool.{cases_lt}
use Rattle.lnt_wire.specs.declared.form.FormValue.TheVariants.{Text, LineStrp, Strp, Udata, Data1, Data2, Data4, Data8}
use Rattle.lnt_wire.specs.declared.form.FormValue.TheVariants.{Data16, Block, Block1, Block2, Block4}
use Rattle.lnt_wire.specs.Bytes.{Appends}
use Rattle.lnt_wire.specs.FormBytes.{BlockBytes, FormBytes, HasSpelling, IsTooLarge, FormValue}
use Rattle.lnt_wire.specs.Laws.{SpelledValues}
use Rattle.lnt_wire.specs.Leb128.{SignedLeb, UnsignedLeb}
use Rattle.lnt_wire.specs.Numbers.{IsLargeOffset, NumberBytes, number_bytes, offset_size, Order, Format}
use Rattle.lnt_wire.specs.Spelled.{FitsForm, HasShortest}
use Rattle.lnt_wire.proofs.PutLemmas.{Begun, begun_signed, begun_unsigned, IsDivided, last_signed, last_unsigned}
use Rattle.lnt_wire.proofs.PutLemmas.{put_signed, put_unsigned, quotient_fits}
use Rattle.lnt_wire.proofs.PutLemmas.IsWide.{above, under}
use Rattle.std.proofs.lemmas.Grind.{common_steps}

put_shortest : {X : Type 0} (Spells : X → List ℕ → Type 0) (x : X) (old new : List ℕ) → Appends Spells x old new → HasShortest Spells x
put_shortest Spells x old new p = (p.spelling, p.spelled)

-- ---- LEB128 numbers

unsigned_from : (fuel n rest : ℕ) (new : List ℕ) → rest ≤ fuel → rest < 2 ^ 64 → Begun UnsignedLeb n rest [] new → HasShortest UnsignedLeb n
unsigned_from zero n rest new le fits b = put_shortest UnsignedLeb n [] (new ++ rest ∷ []) (last_unsigned n rest [] new b (omega arith))
unsigned_from (suc fuel) n rest new le fits b =
    ⊎_elim
    (λ (low : rest < 128). put_shortest UnsignedLeb n [] (new ++ rest ∷ []) (last_unsigned n rest [] new b low))
    (λ (high : 128 ≤ rest). unsigned_from fuel n (rest / 128) (new ++ (rest % 128 + 128) ∷ []) (omega arith) (omega arith)
    (put_unsigned n rest [] new b high fits))
    (cases_lt rest 128)

unsigned : (n : ℕ) → n < 2 ^ 64 → HasShortest UnsignedLeb n
unsigned n fits = unsigned_from n n n [] (omega arith) fits (begun_unsigned n [])

positive : (a : ℕ) → IsDivided (pos a) (pos (a / 128)) (a % 128)
positive a = record { whole = omega (arith, ints); low = omega arith }

negative : (a : ℕ) → IsDivided (negsuc a) (negsuc (a / 128)) (127 - a % 128)
negative a = record { whole = omega (arith, ints); low = omega arith }

-- how far a number is from 0, or from -1
distance : ℤ → ℕ
distance (pos a) = a
distance (negsuc a) = a

-- the last group
signed_low : (z : ℤ) (a : ℕ) (new : List ℕ) → a < 64 → FitsSigned w64 (pos a) → Begun SignedLeb z (pos a) [] new → HasShortest SignedLeb z
signed_low z a new low fits b =
    put_shortest SignedLeb z [] (new ++ a % 128 ∷ [])
    (last_signed z (pos a) (pos (a / 128)) (a % 128) [] new b (positive a) (omega (arith, ints)) (omega (arith, ints, low)) fits)

negative_low : (z : ℤ) (a : ℕ) (new : List ℕ) → a < 64 → FitsSigned w64 (negsuc a) → Begun SignedLeb z (negsuc a) [] new
    → HasShortest SignedLeb z
negative_low z a new low fits b =
    put_shortest SignedLeb z [] (new ++ (127 - a % 128) ∷ [])
    (last_signed z (negsuc a) (negsuc (a / 128)) (127 - a % 128) [] new b (negative a) (omega (arith, ints, low)) (omega (arith, ints))
    fits)

signed_from : (fuel : ℕ) (z rest : ℤ) (new : List ℕ) → distance rest ≤ fuel → FitsSigned w64 rest → Begun SignedLeb z rest [] new
    → HasShortest SignedLeb z
unfolding distance
signed_from zero z (pos a) new le fits b = signed_low z a new (omega arith) fits b
signed_from zero z (negsuc a) new le fits b = negative_low z a new (omega arith) fits b
signed_from (suc fuel) z (pos a) new le fits b =
    ⊎_elim
    (λ (low : a < 64). signed_low z a new low fits b)
    (λ (high : 64 ≤ a).
    signed_from fuel z (pos (a / 128)) (new ++ (a % 128 + 128) ∷ []) (omega arith)
    (quotient_fits (pos a) (pos (a / 128)) (a % 128) (positive a) fits)
    (put_signed z (pos a) (pos (a / 128)) (a % 128) [] new b (above (omega (arith, ints, high))) (positive a) fits))
    (cases_lt a 64)
signed_from (suc fuel) z (negsuc a) new le fits b =
    ⊎_elim
    (λ (low : a < 64). negative_low z a new low fits b)
    (λ (high : 64 ≤ a).
    signed_from fuel z (negsuc (a / 128)) (new ++ (127 - a % 128 + 128) ∷ []) (omega arith)
    (quotient_fits (negsuc a) (negsuc (a / 128)) (127 - a % 128) (negative a) fits)
    (put_signed z (negsuc a) (negsuc (a / 128)) (127 - a % 128) [] new b (under (omega (arith, ints, high))) (negative a) fits))
    (cases_lt a 64)

signed : (z : ℤ) → FitsSigned w64 z → HasShortest SignedLeb z
signed z fits = signed_from (distance z) z z [] (omega arith) fits (begun_signed z [])

-- ---- values

fixed : (order : Order) (size n : ℕ) → n < 256 ^ size → HasShortest (NumberBytes order size) n
fixed order size n fits = (
  number_bytes order size n,
  record
      { spelled = record { fits = fits; spelled = refl }; shortest = λ other p. omega (arith, ap length p.spelled) },
)

offset : (format : Format) (order : Order) (n : ℕ) → n < 2 ^ 64 → (IsLargeOffset format n → ⊥)
    → HasShortest (NumberBytes order (offset_size format)) n
offset format order n fits small = grind (arith, common_steps, fixed, cases_lt)

block : (Length : ℕ → List ℕ → Type 0) (bytes : List ℕ) → HasShortest Length (length bytes) → HasShortest (BlockBytes Length) bytes
block Length bytes (prefix, is) = (
  prefix ++ bytes,
  record {
    spelled = record { prefix = prefix; back = bytes; first = is.spelled; second = refl; joined = refl };
    shortest = λ other p. omega (
      arith,
      length-append prefix bytes,
      ap length p.joined,
      length-append p.prefix p.back,
      ap length p.second,
      is.shortest p.prefix p.first,
    );
  },
)

as_value : {X : Type 0} (Spells : X → List ℕ → Type 0) (format : Format) (order : Order) (x : X) (value : FormValue)
    → ((bytes : List ℕ) → Spells x bytes → FormBytes format order value bytes)
    → ((bytes : List ℕ) → FormBytes format order value bytes → Spells x bytes) → HasShortest Spells x
    → HasShortest (FormBytes format order) value
as_value Spells format order x value to from (bytes, is) =
    (bytes, record { spelled = to bytes is.spelled; shortest = λ other p. is.shortest other (from other p) })

number : (format : Format) (order : Order) (size n : ℕ) (value : FormValue)
    → ((bytes : List ℕ) → NumberBytes order size n bytes → FormBytes format order value bytes)
    → ((bytes : List ℕ) → FormBytes format order value bytes → NumberBytes order size n bytes) → n < 256 ^ size
    → HasShortest (FormBytes format order) value
number format order size n value to from fits = as_value (NumberBytes order size) format order n value to from (fixed order size n fits)

spelled : (format : Format) (order : Order) (value : FormValue) → HasSpelling value → FitsForm value → (IsTooLarge format value → ⊥)
    → HasShortest (FormBytes format order) value
spelled format order (Text t) is fits small =
    (t ++ 0 ∷ [], record { spelled = record { no_zero = is; joined = refl }; shortest = λ other p. omega (arith, ap length p.joined) })
spelled format order (LineStrp n) is fits small =
    as_value (NumberBytes order (offset_size format)) format order n (LineStrp n) (λ x p. p) (λ x p. p) (offset format order n fits small)
spelled format order (Strp n) is fits small =
    as_value (NumberBytes order (offset_size format)) format order n (Strp n) (λ x p. p) (λ x p. p) (offset format order n fits small)
spelled format order (Udata n) is fits small = as_value UnsignedLeb format order n (Udata n) (λ x p. p) (λ x p. p) (unsigned n fits)
spelled format order (Data1 n) is fits small = number format order 1 n (Data1 n) (λ x p. p) (λ x p. p) (omega (arith, fits))
spelled format order (Data2 n) is fits small = number format order 2 n (Data2 n) (λ x p. p) (λ x p. p) (omega (arith, fits))
spelled format order (Data4 n) is fits small = number format order 4 n (Data4 n) (λ x p. p) (λ x p. p) (omega (arith, fits))
spelled format order (Data8 n) is fits small = number format order 8 n (Data8 n) (λ x p. p) (λ x p. p) (omega (arith, fits))
spelled format order (Data16 t) is fits small =
    (t, record { spelled = record { count_is = fits; taken_is = refl }; shortest = λ other p. omega (arith, ap length p.taken_is) })
spelled format order (Block b) is fits small =
    as_value (BlockBytes UnsignedLeb) format order b (Block b) (λ x p. p) (λ x p. p) (block UnsignedLeb b (unsigned (length b) fits))
spelled format order (Block1 b) is fits small =
    as_value (BlockBytes (NumberBytes order 1)) format order b (Block1 b) (λ x p. p) (λ x p. p)
    (block (NumberBytes order 1) b (fixed order 1 (length b) (omega (arith, is))))
spelled format order (Block2 b) is fits small =
    as_value (BlockBytes (NumberBytes order 2)) format order b (Block2 b) (λ x p. p) (λ x p. p)
    (block (NumberBytes order 2) b (fixed order 2 (length b) (omega (arith, is))))
spelled format order (Block4 b) is fits small =
    as_value (BlockBytes (NumberBytes order 4)) format order b (Block4 b) (λ x p. p) (λ x p. p)
    (block (NumberBytes order 4) b (fixed order 4 (length b) (omega (arith, is))))

-- ---- what is spelled

offset_small : (format : Format) (order : Order) (n : ℕ) (x : List ℕ) → NumberBytes order (offset_size format) n x → (n < 2 ^ 64)
    × (IsLargeOffset format n → ⊥)
offset_small format order n x p = grind (arith, common_steps)

allowed : (format : Format) (order : Order) (value : FormValue) (x : List ℕ) → FormBytes format order value x → HasSpelling value
    × FitsForm value × (IsTooLarge format value → ⊥)
allowed format order value x p = grind (arith, common_steps, offset_small)

pub spelled_values : SpelledValues
spelled_values = record { unsigned = unsigned; signed = signed; value = spelled; allowed = allowed }
