use Rattle.std.proofs.Common.{◌<◌, length, arith}
use Rattle.std.proofs.lemmas.Grind.{common_steps}
use Rattle.lnt_unit.proofs.SectionLaws.{all_units, section_broken, unit_added, unit_added_long}
use Rattle.lnt_unit.proofs.decode.decode_section.Goals as goal

pub returns-in-Err-clause-err : goal.returns-in-Err-clause-err
returns-in-Err-clause-err c =
    let some : 0 < length c.loop-cursor.cursor.rest = grind (arith, common_steps) in
    λ other. section_broken c.args.order c.args.bytes.now c.loop-cursor.units.items c.in-Err.fault c.loop-cursor.cursor
    c.loop-cursor.invariant some (c.in-Err.ensures.err other)

pub returns-clause-ok : goal.returns-clause-ok
returns-clause-ok c = grind (arith, common_steps, all_units)

pub loop-cursor-smaller : goal.loop-cursor-smaller
loop-cursor-smaller c = unit_added_long c.args.order _ _ c.loop-cursor.cursor _ c.in_default.ensures.ok

pub loop-cursor-preserved : goal.loop-cursor-preserved
loop-cursor-preserved c =
    unit_added c.args.order c.args.bytes.now _ _ c.loop-cursor.cursor _ c.loop-cursor.invariant c.in_default.ensures.ok
