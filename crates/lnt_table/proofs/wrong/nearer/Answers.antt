use Rattle.std.proofs.Common.{◌<◌, ◌^◌, arith}
use Rattle.lnt_table.proofs.AskedLemmas.{rank_rises, rank_upto}
use Rattle.lnt_table.proofs.wrong.nearer.Goals as goal

pub returns : goal.returns
returns c =
    let from : c.args.from.op < 2 ^ 64 = omega (arith, c.well_formed) in
    let to : c.args.to.op < 2 ^ 64 = omega (arith, c.well_formed) in
    let rises = rank_rises c.args.from c.args.to from c.requires.later in
    let upto = rank_upto c.args.to c.args.end to c.requires.upto in
    omega (arith, rises, upto)
