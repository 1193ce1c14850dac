use Rattle.std.proofs.Common.{◌+◌, sym, subst, Some, take}
use Rattle.lnt_answers.specs.AddressBlocks.{AreFirstPrinted}
use Rattle.lnt_answers.proofs.AddressLemmas.{first_found, first_line}
use Rattle.lnt_answers.proofs.CommaLemmas.{rest_after}
use Rattle.lnt_answers.proofs.addresses.Answers.put_next.Goals as goal

pub returns-in-Some-clause-printed : goal.returns-in-Some-clause-printed
returns-in-Some-clause-printed c = first_found c.in-Some.ensures c.in_ok-put_lookup.ensures.line

pub returns-clause-printed : goal.returns-clause-printed
returns-clause-printed c =
    let text = c.args.text.now in
    let end = c.in-Some-place_of.end in
    let at = rw c.in-Some-place_of.is at c.place_of.ensures.cut in
    subst (λ rest. AreFirstPrinted c.args.lookups.now c.args.self.now.op text rest (Some c.args.self.now.lines.items)
    (Some c.put_line.new.self.lines.items) c.args.self.now.status c.put_line.new.self.status) (sym (rest_after text (end + 1)))
    (first_line (take end text) at c.without_return.ensures c.in_ok-put_line.ensures.printed)
