-- The plain text of a number is the one that std writes.
use Rattle.std.proofs.Common.{◌≡◌, ◌∙◌, ℕ, List, ◌++◌, Result, Ok, Err, OnOk, ap, append_assoc, decimal}
use Rattle.lnt_wire.specs.FaultTexts.{hexadecimal}
use Rattle.lnt_text.specs.Digits.{IsPlainAddress, IsPlainDecimal, Puts}
use Rattle.lnt_text.proofs.WrittenLaws.{address_text, decimal_text}

-- what two calls appended is a name and that text
pub decimal_put : {A E : Type 0} (result : Result A E) (n : ℕ) (old named new name : List ℕ) → named ≡ old ++ name
    → OnOk result (Puts IsPlainDecimal n named new) → OnOk result (new ≡ old ++ (name ++ decimal n))
decimal_put (Ok done) n old named new name before p =
    p.joined ∙ ap (λ (z : List ℕ). named ++ z) (decimal_text n p.text p.spells) ∙ ap (λ (z : List ℕ). z ++ decimal n) before
    ∙ append_assoc old name (decimal n)
decimal_put (Err error) n old named new name before p = p

pub address_put : {A E : Type 0} (result : Result A E) (n : ℕ) (old named new name : List ℕ) → named ≡ old ++ name
    → OnOk result (Puts IsPlainAddress n named new) → OnOk result (new ≡ old ++ (name ++ hexadecimal n))
address_put (Ok done) n old named new name before p =
    p.joined ∙ ap (λ (z : List ℕ). named ++ z) (address_text n p.text p.spells) ∙ ap (λ (z : List ℕ). z ++ hexadecimal n) before
    ∙ append_assoc old name (hexadecimal n)
address_put (Err error) n old named new name before p = p
