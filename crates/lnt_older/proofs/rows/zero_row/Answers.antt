use Rattle.std.proofs.Common.{◌<◌, arith}
use Rattle.lnt_older.proofs.FileZeroLemmas.{first_of_unit}
use Rattle.lnt_older.proofs.rows.zero_row.Goals as goal

pub returns : goal.returns
returns c =
    let some : 0 < c.args.unit.now.header.files.count = omega (arith, c.if-unit-eq0.false) in
    first_of_unit c.args.unit.now c.args.address_size c.first_zero_row.result c.in_ok-numbers.numbers some c.in_ok-numbers.ensures
    c.first_zero_row.ensures
