use Rattle.std.proofs.Common.{◌∙◌, ℕ, ◌++◌, ap, arith, codes, decimal, sym}
use Rattle.std.proofs.lemmas.Bool.{eqb-false, eqb-true}
use Rattle.lnt_dump.proofs.Operands.{bytes_told, no_bytes_told, not_err}
use Rattle.lnt_dump.proofs.operations.put_extended.Goals as goal

pub returns-then-is_empty : goal.returns-then-is_empty
returns-then-is_empty c =
    no_bytes_told c.args.bytes.now _ c.args.text.now.items c.put_named.new.text.items
    (omega (arith, eqb-true _ _ (sym c.is_empty.ensures ∙ c.if-is_empty.true)))
    (c.in_ok-put_named.ensures ∙ ap (λ (n : ℕ). c.args.text.now.items ++ (codes "unknown_extended " ++ decimal n)) c.from.ensures)

pub returns : goal.returns
returns c =
    bytes_told c.args.bytes.now _ c.args.text.now.items c.put_named.new.text.items c.push.new.self.items c.print_bytes.new.out.items
    (omega (arith, eqb-false _ _ (sym c.is_empty.ensures ∙ c.if-is_empty.false)))
    (c.in_ok-put_named.ensures ∙ ap (λ (n : ℕ). c.args.text.now.items ++ (codes "unknown_extended " ++ decimal n)) c.from.ensures)
    c.in_ok-push.ensures.items (not_err c.print_bytes.result _ (sym c.if-is_err.ensures.value) c.print_bytes.ensures)
