use Rattle.std.proofs.Common.{◌∙◌, ℕ, ◌+◌, List, subst, sym}
use Rattle.lnt_text.specs.Digits.{IsDecimal}
use Rattle.lnt_answers.proofs.CommaLemmas.{none_alone, none_before, none_past, rest_after}
use Rattle.lnt_answers.proofs.addresses.position_in.Goals as goal

pub returns-in_err-address : goal.returns-in_err-address
returns-in_err-address c = rw c.from_residual.ensures
    (λ place tells. none_alone c.args.op c.args.line.now _ place (sym c.place_of.ensures.place ∙ c.in_default.is) c.in_err-address.ensures
    tells)

pub returns-in_err-address-2 : goal.returns-in_err-address-2
returns-in_err-address-2 c = rw c.from_residual-in_err-address-2.ensures
    (λ place tells. none_before c.args.op c.args.line.now _ place c.in-Some.comma (sym c.place_of.ensures.place ∙ c.in-Some.is)
    c.in_err-address-2.ensures tells)

pub returns-in_err-decimal : goal.returns-in_err-decimal
returns-in_err-decimal c = rw c.from_residual-in_err-decimal.ensures
    (λ place tells. none_past c.args.op c.args.line.now _ place c.in-Some.comma (sym c.place_of.ensures.place ∙ c.in-Some.is)
    (subst (λ (rest : List ℕ). (n : ℕ) → IsDecimal rest n → ⊥) (rest_after c.args.line.now (c.in-Some.comma + 1)) c.in_err-decimal.ensures)
    tells)
