-- The first index of a byte in a text, and the comma of a line.
use Rattle.std.proofs.Common.{◌≡◌, ℕ, ◌==◌, ◌+◌, ◌-◌, ◌<◌, ◌≤◌, true, false, List, drop, length, length-drop, get_or, subst, take, Option}
use Rattle.std.proofs.Common.{Some, None, refl, arith, nat_lt, take_all}
use Rattle.std.specs.List.{position, position_or_len}
use Rattle.std.proofs.lemmas.Bool.Decides.{nat_tests}
use Rattle.std.proofs.lemmas.List.Sums.{position_or_len_is}
use Rattle.lnt_text.specs.Digits.{IsAddress, IsDecimal}
use Rattle.lnt_spans.specs.declared.position.Position.{Position}
use Rattle.lnt_answers.specs.Lines.{NamesPositionAt}

inside_is : (m n : ℕ) → m < n → nat_lt m n ≡ true
inside_is m n lt = grind (arith, nat_tests)

outside_is : (m n : ℕ) → n ≤ m → nat_lt m n ≡ false
outside_is m n le = grind (arith, nat_tests)

same_is_itself : (m n : ℕ) → m ≡ n → (m == n) ≡ true
same_is_itself m n e = grind (arith, nat_tests)

pub place_found : (byte : ℕ) (text : List ℕ) (k : ℕ) → k < length text → ((j : ℕ) → j < k → (get_or text j 0 == byte) ≡ false)
    → get_or text k 0 ≡ byte → Some k ≡ position (λ other. other == byte) text
place_found byte text k lt before is =
    let at : position_or_len (λ other. other == byte) text ≡ k =
    position_or_len_is (λ other. other == byte) text k 0 (omega arith) before (λ _. same_is_itself (get_or text k 0) byte is) in
    rw (at, inside_is k (length text) lt) refl

pub place_missing : (byte : ℕ) (text : List ℕ) (k : ℕ) → length text ≤ k → ((j : ℕ) → j < k → (get_or text j 0 == byte) ≡ false)
    → None ≡ position (λ other. other == byte) text
place_missing byte text k le before =
    let at : position_or_len (λ other. other == byte) text ≡ length text =
    position_or_len_is (λ other. other == byte) text (length text) 0 (omega arith) (λ j few. before j (omega arith))
    (λ lt. absurd (omega arith)) in
    rw (at, outside_is (length text) (length text) (omega arith)) refl

-- a line without a comma that is no address has no position
pub none_alone : (op : ℕ) (line : List ℕ) (comma : Option ℕ) (place : Position) → comma ≡ None → ((n : ℕ) → IsAddress line n → ⊥)
    → NamesPositionAt op line comma place → ⊥
none_alone op line comma place e other tells = other place.address (subst (λ (o : Option ℕ). NamesPositionAt op line o place) e tells).0

-- nor has one without an address before the comma
pub none_before : (op : ℕ) (line : List ℕ) (comma : Option ℕ) (place : Position) (k : ℕ) → comma ≡ Some k
    → ((n : ℕ) → IsAddress (take k line) n → ⊥) → NamesPositionAt op line comma place → ⊥
none_before op line comma place k e other tells = other place.address (subst (λ (o : Option ℕ). NamesPositionAt op line o place) e tells).0

-- nor one without a number after the comma
pub none_past : (op : ℕ) (line : List ℕ) (comma : Option ℕ) (place : Position) (k : ℕ) → comma ≡ Some k
    → ((n : ℕ) → IsDecimal (drop (k + 1) line) n → ⊥) → NamesPositionAt op line comma place → ⊥
none_past op line comma place k e other tells = other place.op (subst (λ (o : Option ℕ). NamesPositionAt op line o place) e tells).1

-- the slice from an index to the end
pub rest_after : (line : List ℕ) (k : ℕ) → take (length line - k) (drop k line) ≡ drop k line
rest_after line k = take_all (length line - k) (drop k line) (let e = length-drop k line in omega (arith, e))
