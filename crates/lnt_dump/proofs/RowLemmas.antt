-- Texts that are written from their ends on.
use Rattle.std.proofs.Common.{◌≡◌, ◌∙◌, ℕ, ◌+◌, ◌-◌, ◌≤◌, Bool, true, false, codes, decimal, if◌then◌else◌}
use Rattle.std.proofs.Common.{List, [], ◌∷◌, ◌++◌, drop, take, length, ap, arith, slice_set}
use Rattle.std.specs.Int.{from_bool}
use Rattle.std.proofs.lemmas.List.{drop-set}
use Rattle.lnt_text.specs.Digits.{IsPlainAddress, IsPlainDecimal}
use Rattle.lnt_machine.specs.declared.row.Row.{Row}
use Rattle.lnt_dump.specs.Operations.{flags_text, row_line}
use Rattle.lnt_text.proofs.WrittenLaws.{address_text, decimal_text, text_before}

-- a byte that was written before a place
pub byte_before : (room : List ℕ) (end byte : ℕ) → 1 ≤ end → end ≤ length room
    → drop (end - 1) (slice_set room (end - 1) byte) ≡ byte ∷ drop end room
byte_before room end byte some fits =
    let back : end - 1 + 1 ≡ end = omega (arith, some) in
    drop-set room (end - 1) byte (omega (arith, some, fits)) ∙ ap (λ (k : ℕ). byte ∷ drop k room) back

-- a number before a byte, of which a text tells where its digits begin
pub digits_before : (room new : List ℕ) (start end number after : ℕ) → 1 ≤ end → end ≤ length room → start ≤ end - 1
    → IsPlainDecimal (drop start (take (end - 1) new)) number → drop (end - 1) new ≡ drop (end - 1) (slice_set room (end - 1) after)
    → drop start new ≡ decimal number ++ (after ∷ drop end room)
digits_before room new start end number after some fits le digits_are same =
    let digits = drop start (take (end - 1) new) in
    text_before (slice_set room (end - 1) after) new start (end - 1) le same
    ∙ ap (λ rest. digits ++ rest) (byte_before room end after some fits)
    ∙ ap (λ prefix. prefix ++ (after ∷ drop end room)) (decimal_text number digits digits_are)

-- ---- the line

-- the digit of a statement, before the rest
stmt_text : (is_stmt : Bool) (stmt : ℕ) (rest text : List ℕ) → stmt ≡ 48 + from_bool is_stmt → text ≡ stmt ∷ rest
    → text ≡ (if is_stmt then codes "1" else codes "0") ++ rest
stmt_text true stmt rest text is joined = joined ∙ ap (λ (digit : ℕ). digit ∷ rest) is
stmt_text false stmt rest text is joined = joined ∙ ap (λ (digit : ℕ). digit ∷ rest) is

-- the parts of a line, from its end on
pub line_of : {t0 t1 t2 t3 t4 t5 t6 t7 t8 t9 t10 t11 t12 t13 t14 t15 t16 : List ℕ} (number : ℕ) (row : Row) (address : List ℕ) (stmt : ℕ)
    → t0 ≡ [] → t1 ≡ decimal row.discriminator ++ (10 ∷ t0) → t2 ≡ decimal row.isa ++ (32 ∷ t1)
    → t3 ≡ flags_text row ++ (32 ∷ t2) → t4 ≡ 32 ∷ t3 → t5 ≡ stmt ∷ t4 → stmt ≡ 48 + from_bool row.is_stmt
    → t6 ≡ decimal row.column ++ (32 ∷ t5) → t7 ≡ decimal row.line ++ (32 ∷ t6) → t8 ≡ decimal row.file ++ (32 ∷ t7)
    → t9 ≡ decimal row.op_index ++ (32 ∷ t8) → t10 ≡ 32 ∷ t9 → IsPlainAddress address row.address → t11 ≡ address ++ t10
    → t12 ≡ decimal number ++ (32 ∷ t11) → t13 ≡ 32 ∷ t12 → t14 ≡ 119 ∷ t13 → t15 ≡ 111 ∷ t14 → t16 ≡ 114 ∷ t15
    → t16 ≡ row_line number row
line_of {t10 = t10} number row address stmt e0 e1 e2 e3 e4 e5 stmt_is e6 e7 e8 e9 e10 address_is e11 e12 e13 e14 e15 e16 =
    let digit = stmt_text row.is_stmt stmt _ _ stmt_is e5 in
    let place = e11 ∙ ap (λ prefix. prefix ++ t10) (address_text row.address address address_is) in
    cc
