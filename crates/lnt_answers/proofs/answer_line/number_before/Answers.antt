use Rattle.std.proofs.Common.{◌^◌, ◌<◌, arith, rules}
use Rattle.std.proofs.lemmas.Fmt.{decimal_nonempty, length-decimal-le}
use Rattle.lnt_answers.proofs.answer_line.number_before.Goals as goal

pub write_digits-requires : goal.write_digits-requires
write_digits-requires c =
    let fits : c.args.n < 2 ^ 64 = omega (arith, c.ranges.n.fits) in
    (omega (arith, c.requires, length-decimal-le 20 c.args.n (omega arith) (omega arith) fits), search rules)

pub returns-clause-within : goal.returns-clause-within
returns-clause-within c =
    let fits : c.args.n < 2 ^ 64 = omega (arith, c.ranges.n.fits) in
    let few = length-decimal-le 20 c.args.n (omega arith) (omega arith) fits in
    let some = decimal_nonempty c.args.n fits in
    (omega (arith, c.write_digits.ensures.start, some), omega (arith, c.write_digits.ensures.start, few))
