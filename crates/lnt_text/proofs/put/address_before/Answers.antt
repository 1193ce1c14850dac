use Rattle.std.proofs.Common.{arith}
use Rattle.lnt_text.proofs.PutLemmas.{address_within}
use Rattle.lnt_text.proofs.put.address_before.Goals as goal

pub returns-clause-written : goal.returns-clause-written
returns-clause-written c =
    let digits = c.digits_before-start.ensures in
    address_within c.digits_before-start.new.text c.digits_before-start.result c.args.end c.args.n digits.long digits.begins.0
    (omega (arith, digits.begins, c.requires)) digits.written
