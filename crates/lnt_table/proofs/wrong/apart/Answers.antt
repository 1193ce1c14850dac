use Rattle.std.proofs.Common.{◌<◌, ◌^◌, arith}
use Rattle.lnt_table.proofs.wrong.apart.Goals as goal

pub returns : goal.returns
returns c =
    let op : c.args.end.op < 2 ^ 64 = omega (arith, c.well_formed) in
    let address : c.args.end.address < 2 ^ 64 = omega (arith, c.well_formed) in
    omega (arith, op, address)
