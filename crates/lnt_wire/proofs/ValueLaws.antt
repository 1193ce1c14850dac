-- Values of one form have spellings of which none is the prefix of another, and each spells one value. Crates above cite these.
use Rattle.std.proofs.Common.{◌≡◌, ℕ, List, [], ◌∷◌, ◌++◌, length, refl, sym, ap, ◌∙◌, arith}
use Rattle.lnt_wire.specs.declared.form.FormValue.TheVariants.{Text, LineStrp, Strp, Udata, Data1, Data2, Data4, Data8, Data16}
use Rattle.lnt_wire.specs.declared.form.FormValue.TheVariants.{Block, Block1, Block2, Block4}
use Rattle.lnt_wire.specs.declared.form.BlockLength.TheVariants.{Leb, One, Two, Four}
use Rattle.lnt_wire.specs.Bytes.{IsCode}
use Rattle.lnt_wire.specs.FormBytes.{form_code, form_of, HasNoZero, BlockBytes, FormBytes, Form, FormValue}
use Rattle.lnt_wire.specs.BlockLengths.{LengthBytes, BlockLength}
use Rattle.lnt_wire.specs.Laws.{OneNumber, OneLeb, OneValue}
use Rattle.lnt_wire.specs.Numbers.{offset_size, Order, Format}
use Rattle.lnt_wire.proofs.CodeLaws.{number_code, unsigned_code, signed_code, taken_code, peel, same_join}
use Rattle.lnt_wire.proofs.LengthLaws.{IsWidth, width_1, width_2, width_4, width_8, same_prefix}
use Rattle.std.proofs.lemmas.Grind.{common_steps}

pub offset_width : (format : Format) → IsWidth (offset_size format)
offset_width format = grind (arith, common_steps, width_4, width_8)

pub length_code : (order : Order) (encoding : BlockLength) → IsCode (LengthBytes order encoding)
length_code order encoding = grind (arith, common_steps, unsigned_code, number_code, width_1, width_2, width_4)

-- texts that end at the same zero byte
same_text : (t t' r s : List ℕ) → HasNoZero t → HasNoZero t' → (t ++ 0 ∷ []) ++ r ≡ (t' ++ 0 ∷ []) ++ s → t ≡ t'
same_text [] [] r s p q e = refl
same_text [] (b ∷ t') r s p q e = let heads : 0 ≡ b = cc in absurd (omega (arith, q.0))
same_text (a ∷ t) [] r s p q e = let heads : a ≡ 0 = cc in absurd (omega (arith, p.0))
same_text (a ∷ t) (b ∷ t') r s p q e =
    let heads : a ≡ b = cc in
    let tails : (t ++ 0 ∷ []) ++ r ≡ (t' ++ 0 ∷ []) ++ s = cc in
    let rest : t ≡ t' = same_text t t' r s p.1 q.1 tails in
    cc

same_number : {X : Type 0} (make : ℕ → X) (m n : ℕ) (x y : List ℕ) → (m ≡ n) × (x ≡ y) → (make m ≡ make n) × (x ≡ y)
same_number make m n x y h = (ap make h.0, h.1)

-- blocks with lengths of one kind
same_block : (order : Order) (encoding : BlockLength) (t t' x y r s : List ℕ) → BlockBytes (LengthBytes order encoding) t x
    → BlockBytes (LengthBytes order encoding) t' y → x ++ r ≡ y ++ s → (t ≡ t') × (x ≡ y)
same_block order encoding t t' x y r s p q e =
    let one = peel (length_code order encoding) (length t) (length t') x y r s p q e in
    let len : length p.back ≡ length q.back = ap length p.second ∙ one.value ∙ sym (ap length q.second) in
    let same : p.back ≡ q.back = same_prefix p.back q.back r s len one.past in
    (sym p.second ∙ same ∙ q.second, same_join x y p q one.bytes same)

-- values of one form
pub same_value : (format : Format) (order : Order) (u v : FormValue) (x y r s : List ℕ) → form_of u ≡ form_of v
    → FormBytes format order u x → FormBytes format order v y → x ++ r ≡ y ++ s → (u ≡ v) × (x ≡ y)
same_value format order (Text t) (Text t') x y r s same p q e =
    let text : t ≡ t' =
    same_text t t' r s p.no_zero q.no_zero (ap (λ (z : List ℕ). z ++ r) (sym p.joined) ∙ e ∙ ap (λ (z : List ℕ). z ++ s) q.joined) in
    (ap Text text, p.joined ∙ ap (λ (z : List ℕ). z ++ 0 ∷ []) text ∙ sym q.joined)
same_value format order (LineStrp m) (LineStrp n) x y r s same p q e =
    same_number LineStrp m n x y ((number_code order (offset_size format) (offset_width format)).one m n x y r s p q e)
same_value format order (Strp m) (Strp n) x y r s same p q e =
    same_number Strp m n x y ((number_code order (offset_size format) (offset_width format)).one m n x y r s p q e)
same_value format order (Udata m) (Udata n) x y r s same p q e = same_number Udata m n x y (unsigned_code.one m n x y r s p q e)
same_value format order (Data1 m) (Data1 n) x y r s same p q e =
    same_number Data1 m n x y ((number_code order 1 width_1).one m n x y r s p q e)
same_value format order (Data2 m) (Data2 n) x y r s same p q e =
    same_number Data2 m n x y ((number_code order 2 width_2).one m n x y r s p q e)
same_value format order (Data4 m) (Data4 n) x y r s same p q e =
    same_number Data4 m n x y ((number_code order 4 width_4).one m n x y r s p q e)
same_value format order (Data8 m) (Data8 n) x y r s same p q e =
    same_number Data8 m n x y ((number_code order 8 width_8).one m n x y r s p q e)
same_value format order (Data16 t) (Data16 t') x y r s same p q e =
    let found = (taken_code 16).one t t' x y r s p q e in
    (ap Data16 found.0, found.1)
same_value format order (Block t) (Block t') x y r s same p q e =
    let found = same_block order Leb t t' x y r s p q e in
    (ap Block found.0, found.1)
same_value format order (Block1 t) (Block1 t') x y r s same p q e =
    let found = same_block order One t t' x y r s p q e in
    (ap Block1 found.0, found.1)
same_value format order (Block2 t) (Block2 t') x y r s same p q e =
    let found = same_block order Two t t' x y r s p q e in
    (ap Block2 found.0, found.1)
same_value format order (Block4 t) (Block4 t') x y r s same p q e =
    let found = same_block order Four t t' x y r s p q e in
    (ap Block4 found.0, found.1)
same_value format order u v x y r s same p q e = absurd cc

-- no two forms have one code
pub same_code : (a b : Form) → form_code a ≡ form_code b → a ≡ b
same_code a b e = grind (arith, common_steps)

-- ---- the laws

pub one_number : OneNumber
one_number = grind (arith, common_steps, number_code, width_1, width_2, width_4, width_8, offset_width)

pub one_leb : OneLeb
one_leb = record { unsigned = unsigned_code; signed = signed_code }

pub one_value : OneValue
one_value format order form = grind (arith, common_steps, same_value)
