use Rattle.std.proofs.Common.{arith}
use Rattle.lnt_lines.proofs.PlaceLemmas.{place_found, place_missing}
use Rattle.lnt_lines.proofs.lines.place_of.Goals as goal

pub returns-then-offset-unit : goal.returns-then-offset-unit
returns-then-offset-unit c =
    let inside = c.loop-low.invariant.inside in
    place_found c.args.units.now c.args.unit _ c.requires (omega (arith, inside, c.loop-low-test.true)) c.if-offset-unit.true

pub returns : goal.returns
returns c =
    place_missing c.args.units.now c.args.unit c.loop-low.low c.loop-low.high c.loop-low.invariant (omega (arith, c.loop-low-test.false))
