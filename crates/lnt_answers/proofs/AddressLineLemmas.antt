-- A line with a position at the beginning of a text.
use Rattle.std.proofs.Common.{◌≡◌, ◌∙◌, ℕ, ◌==◌, ◌+◌, ◌-◌, ◌<◌, false, List, [], ◌∷◌, ◌++◌, length, get_or}
use Rattle.std.proofs.Common.{Option, Some, None, refl, sym, ap, subst, append_assoc, arith}
use Rattle.std.proofs.lemmas.Bool.Decides.{nat_tests}
use Rattle.std.proofs.Math.Seq.{drop-append-add, take-append_seam}
use Rattle.std.proofs.lemmas.List.{get_or-append-add, get_or_append_left, length-append}
use Rattle.std.proofs.lemmas.List.Elements.{All-append, All-cons, All-from_recursion, All-weaker}
use Rattle.std.specs.List.{AllByRecursion, position}
use Rattle.std.specs.Str.Lines.{strip_carriage_return}
use Rattle.lnt_text.specs.Digits.{Begins, IsAddress, IsDecimal}
use Rattle.lnt_text.proofs.TextLaws.{FromZero, address_from_zero, decimal_from_zero}
use Rattle.lnt_spans.specs.declared.position.Position.{Position}
use Rattle.lnt_answers.specs.AddressBlocks.{BeginsWithLine, HasNo}
use Rattle.lnt_answers.specs.Lines.{NamesPosition, NamesPositionAt}
use Rattle.lnt_answers.proofs.CommaLemmas.{place_found, place_missing}

-- ---- bytes that numbers don't have

other_than : (byte c : ℕ) → byte < c → (c == byte) ≡ false
other_than byte c lt = grind (arith, nat_tests)

no_byte : (byte : ℕ) → byte < 48 → (text : List ℕ) → AllByRecursion FromZero text → HasNo byte text
no_byte byte below text from =
    All-weaker FromZero (λ other. (other == byte) ≡ false) (λ c so. other_than byte c (omega (arith, below, so))) text
    (All-from_recursion FromZero text from)

-- a line without a carriage return
kept_whole : (line : List ℕ) → HasNo 13 line → line ≡ strip_carriage_return line
kept_whole [] none = refl
kept_whole (c ∷ line) none =
    let last : (get_or (c ∷ line) (length (c ∷ line) - 1) 0 == 13) ≡ false = none (length (c ∷ line) - 1) 0 (omega arith) in
    rw last refl

-- ---- the position in a line

at_place : (op : ℕ) (line : List ℕ) (comma : Option ℕ) (place : Position) → comma ≡ position (λ byte. byte == 44) line
    → NamesPositionAt op line comma place → NamesPosition op line place
at_place op line comma place e tells = subst (λ (o : Option ℕ). NamesPositionAt op line o place) e tells

-- an address up to the line feed
pub address_line : (op : ℕ) (text rest : List ℕ) (place : Position) → Begins IsAddress text place.address 10 rest → place.op ≡ op
    → BeginsWithLine op text place rest
address_line op text rest place begins op_is =
    let line = begins.prefix in
    let from = address_from_zero line place.address begins.spells in
    let whole = kept_whole line (no_byte 13 (omega arith) line from) in
    record {
      line = line;
      cut = (begins.joined, no_byte 10 (omega arith) line from);
      tells = subst (λ (l : List ℕ). NamesPosition op l place) whole
          (at_place op line None place (no_comma line from) (begins.spells, op_is));
    }
  where
    no_comma : (line : List ℕ) → AllByRecursion FromZero line → None ≡ position (λ byte. byte == 44) line
    no_comma line from =
        place_missing 44 line (length line) (omega arith) (λ j few. no_byte 44 (omega arith) line from j 0 few)

-- an address up to a comma, and then a number up to the line feed
pub comma_line : (op : ℕ) (text mid rest : List ℕ) (place : Position) → Begins IsAddress text place.address 44 mid
    → Begins IsDecimal mid place.op 10 rest → BeginsWithLine op text place rest
comma_line op text mid rest place first second =
    let prefix = first.prefix in
    let back = second.prefix in
    let line = prefix ++ 44 ∷ back in
    let prefix_from = address_from_zero prefix place.address first.spells in
    let back_from = decimal_from_zero back place.op second.spells in
    let no : (byte : ℕ) → byte < 44 → HasNo byte line =
    λ byte below. All-append (λ other. (other == byte) ≡ false) prefix (44 ∷ back) (no_byte byte (omega (arith, below)) prefix prefix_from)
    (All-cons (λ other. (other == byte) ≡ false) 44 back (other_than byte 44 below) (no_byte byte (omega (arith, below)) back back_from)) in
    record {
      line = line;
      cut = (
        first.joined ∙ ap (λ (z : List ℕ). prefix ++ 44 ∷ z) second.joined ∙ sym (append_assoc prefix (44 ∷ back) (10 ∷ rest)),
        no 10 (omega arith),
      );
      tells = subst (λ (l : List ℕ). NamesPosition op l place) (kept_whole line (no 13 (omega arith)))
          (at_place op line (Some (length prefix)) place (comma_at prefix back prefix_from) (
            subst (λ (l : List ℕ). IsAddress l place.address) (sym (take-append_seam prefix (44 ∷ back))) first.spells,
            subst (λ (l : List ℕ). IsDecimal l place.op) (sym (drop-append-add prefix (44 ∷ back) 1)) second.spells,
          ));
    }
  where
    comma_at : (prefix back : List ℕ) → AllByRecursion FromZero prefix
        → Some (length prefix) ≡ position (λ byte. byte == 44) (prefix ++ 44 ∷ back)
    comma_at prefix back from =
        let line = prefix ++ 44 ∷ back in
        let none = no_byte 44 (omega arith) prefix from in
        let size = length-append prefix (44 ∷ back) in
        let at : get_or line (length prefix + 0) 0 ≡ 44 = get_or-append-add prefix (44 ∷ back) 0 0 in
        place_found 44 line (length prefix) (omega (arith, size))
        (λ j few. subst (λ (c : ℕ). (c == 44) ≡ false) (sym (get_or_append_left prefix (44 ∷ back) 0 j few)) (none j 0 few))
        (subst (λ (k : ℕ). get_or line k 0 ≡ 44) (omega arith) at)
