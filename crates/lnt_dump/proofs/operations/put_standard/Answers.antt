use Rattle.std.proofs.Common.{◌∙◌, ℕ, ◌++◌, ap, codes, decimal}
use Rattle.lnt_dump.proofs.Operands.{listed_told, spelled_told}
use Rattle.lnt_dump.proofs.operations.put_standard.Goals as goal

pub returns-in-Listed : goal.returns-in-Listed
returns-in-Listed c =
    rw c.in-Listed.is (listed_told c.put_listed.result _ c.args.opcode c.args.text.now.items c.put_named.new.text.items
    c.put_listed.new.text.items (c.in_ok-put_named.ensures
    ∙ ap (λ (n : ℕ). c.args.text.now.items ++ (codes "unknown_standard " ++ decimal n)) c.from.ensures) c.put_listed.ensures)

pub returns-in-Spelled : goal.returns-in-Spelled
returns-in-Spelled c =
    rw c.in-Spelled.is (spelled_told c.put_spelled.result _ c.args.opcode c.args.text.now.items c.put_named.new.text.items
    c.put_spelled.new.text.items (c.in_ok-put_named.ensures
    ∙ ap (λ (n : ℕ). c.args.text.now.items ++ (codes "unknown_standard " ++ decimal n)) c.from.ensures) c.put_spelled.ensures)
