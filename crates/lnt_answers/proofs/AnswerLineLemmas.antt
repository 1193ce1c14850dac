-- Texts that are written from their ends on.
use Rattle.std.proofs.Common.{◌≡◌, ◌∙◌, ℕ, Bool, true, false, if◌then◌else◌, List, [], ◌++◌, codes, decimal}
use Rattle.std.proofs.Common.{append_assoc, append-nil, ap, refl, sym}
use Rattle.std.specs.Int.{from_bool}
use Rattle.lnt_spans.specs.declared.answer.Answer.{Answer}
use Rattle.lnt_spans.specs.declared.position.Position.{Position}
use Rattle.lnt_text.specs.Digits.{IsPlainAddress}
use Rattle.lnt_text.proofs.WrittenLaws.{address_text}
use Rattle.lnt_wire.specs.FaultTexts.{hexadecimal}
use Rattle.lnt_text.specs.Texts.{position_text}
use Rattle.lnt_answers.specs.Lines.{numbers_text}

-- the number of a truth value
bool_number : (b : Bool) → from_bool b ≡ (if b then 1 else 0)
bool_number true = refl
bool_number false = refl

-- the numbers of an answer and the words before them, from the end on
pub numbers_of : {t0 t1 t2 t3 t4 t5 t6 t7 t8 t9 t10 : List ℕ} (answer : Answer) (stmt : ℕ) → t0 ≡ [] → stmt ≡ from_bool answer.is_stmt
    → t1 ≡ decimal stmt ++ t0 → t2 ≡ codes " stmt " ++ t1 → t3 ≡ decimal answer.column ++ t2 → t4 ≡ codes " column " ++ t3
    → t5 ≡ decimal answer.line ++ t4 → t6 ≡ codes " line " ++ t5 → t7 ≡ decimal answer.file ++ t6 → t8 ≡ codes " file " ++ t7
    → t9 ≡ decimal answer.unit ++ t8 → t10 ≡ codes " unit " ++ t9 → t10 ≡ numbers_text answer
numbers_of answer stmt e0 stmt_is e1 e2 e3 e4 e5 e6 e7 e8 e9 e10 =
    let last = e1 ∙ ap (λ rest. decimal stmt ++ rest) e0 ∙ append-nil (decimal stmt) ∙ ap decimal (stmt_is ∙ bool_number answer.is_stmt) in
    cc

-- a position before other text: the address, a comma and the operation index
pub position_of : (t0 t1 t2 t3 : List ℕ) (position : Position) (address : List ℕ) → t1 ≡ decimal position.op ++ t0 → t2 ≡ codes "," ++ t1
    → IsPlainAddress address position.address → t3 ≡ address ++ t2 → t3 ≡ position_text position ++ t0
position_of t0 t1 t2 t3 position address e1 e2 is e3 =
    e3 ∙ ap (λ prefix. prefix ++ t2) (address_text position.address address is)
    ∙ ap (λ (z : List ℕ). hexadecimal position.address ++ z) (e2 ∙ ap (λ (z : List ℕ). codes "," ++ z) e1)
    ∙ sym (append_assoc (hexadecimal position.address ++ codes ",") (decimal position.op) t0
    ∙ append_assoc (hexadecimal position.address) (codes ",") (decimal position.op ++ t0))
