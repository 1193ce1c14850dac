use Rattle.std.proofs.Common.{◌≡◌, List, ℕ, drop, refl, rules, subst, sym}
use Rattle.lnt_text.specs.Digits.{Begins, IsAddress, IsDecimal}
use Rattle.lnt_answers.proofs.AddressLineLemmas.{address_line, comma_line}
use Rattle.lnt_answers.proofs.CommaLemmas.{rest_after}
use Rattle.lnt_answers.proofs.addresses.line_at.Goals as goal

pub returns-in-Some : goal.returns-in-Some
returns-in-Some c =
    let text = c.args.text.now in
    let rest : c.in_ok-get.field-0.now ≡ drop c.in-Some.next text = search (rules, rest_after) in
    address_line c.args.op text c.in_ok-get.field-0.now _
    (subst (λ (z : List ℕ). Begins IsAddress text c.in-Some.address 10 z) (sym rest) c.in-Some.ensures) refl

pub returns : goal.returns
returns c =
    let text = c.args.text.now in
    let rest : c.in_ok-get-2.field-0.now ≡ drop c.in_ok-op.next text = search (rules, rest_after) in
    comma_line c.args.op text (drop c.in_ok-address.past text) c.in_ok-get-2.field-0.now _ c.in_ok-address.ensures
    (subst (λ (z : List ℕ). Begins IsDecimal (drop c.in_ok-address.past text) c.in_ok-op.op 10 z) (sym rest) c.in_ok-op.ensures)
