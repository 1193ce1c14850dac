use Rattle.std.proofs.Common.{◌∙◌, arith, refl, rules}
use Rattle.std.proofs.lemmas.Grind.{common_steps}
use Rattle.lnt_io.proofs.PrefixLaws.{so_stopped}
use Rattle.lnt_dump.proofs.FramePrefixes.{fault_cut, units_cut, units_stopped}
use Rattle.lnt_dump.proofs.Frames.{frames_faulty, frames_more, frames_none, long_since, next_framed}
use Rattle.lnt_dump.proofs.units.print_lines.Goals as goal

pub loop-unit-init : goal.loop-unit-init
loop-unit-init g c = record {
  reading = c.requires.reading;
  failures = refl;
  name = refl;
  left = omega (arith, c.requires.offset);
  same_reference = refl;
  printed = frames_none c.requires.order c.requires.offset refl;
}

pub loop-unit-preserved : goal.loop-unit-preserved
loop-unit-preserved g c =
    let left = (rw c.in-Unit.is at c.in_ok-unit.ensures.left) tt in
    record {
      reading = search rules;
      failures = grind (arith, common_steps);
      name = c.in_ok-unit.ensures.failures.name ∙ c.loop-unit.invariant.name;
      left = omega (arith, left, c.loop-unit.invariant.left);
      same_reference = c.in_ok-unit.ensures.same_reference ∙ c.loop-unit.invariant.same_reference;
      printed = frames_more c.in_ok-unit.ensures.order c.loop-unit.invariant.printed (next_framed c.in-Unit.is c.in_ok-unit.ensures.next
          c.frame.ensures.offset c.frame.ensures.bytes c.frame.ensures.placed) c.in_ok-print_frame-in-Unit.ensures.whole;
    }

pub returns-in-Fault-clause-printed : goal.returns-in-Fault-clause-printed
returns-in-Fault-clause-printed g c =
    frames_faulty (g.W.Write.contents c.print_fault.new.out) c.in-Fault.fault c.print_fault.result c.loop-unit.invariant.printed (rw
    c.in-Fault.is at c.in_ok-unit.ensures.next) c.print_fault.ensures.no c.print_fault.ensures.line

pub returns-in-Fault-clause-begun : goal.returns-in-Fault-clause-begun
returns-in-Fault-clause-begun g c =
    fault_cut (g.W.Write.contents c.print_fault.new.out) c.in-Fault.fault c.print_fault.result c.loop-unit.invariant.printed
    (rw c.in-Fault.is
    at c.in_ok-unit.ensures.next) c.print_fault.ensures.prefix

pub returns-in_err-unit-clause-begun : goal.returns-in_err-unit-clause-begun
returns-in_err-unit-clause-begun g c =
    so_stopped c.from_residual.result _ (units_stopped c.loop-unit.invariant.printed)

pub returns-in_err-print_frame-in-Unit-clause-begun : goal.returns-in_err-print_frame-in-Unit-clause-begun
returns-in_err-print_frame-in-Unit-clause-begun g c =
    so_stopped c.from_residual-in_err-print_frame-in-Unit.result _ (units_cut c.in_ok-unit.ensures.order c.loop-unit.invariant.printed
    (next_framed c.in-Unit.is c.in_ok-unit.ensures.next c.frame.ensures.offset c.frame.ensures.bytes c.frame.ensures.placed)
    c.in_err-print_frame-in-Unit.ensures.prefix)

pub returns-in_err-unit-clause-too_long : goal.returns-in_err-unit-clause-too_long
returns-in_err-unit-clause-too_long g c =
    let inv = c.loop-unit.invariant in
    λ stop. long_since _ _ _ inv.printed.read inv.left (c.in_err-unit.ensures.too_long (grind (arith, common_steps)))
