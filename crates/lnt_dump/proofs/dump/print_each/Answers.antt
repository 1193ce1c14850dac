use Rattle.std.proofs.Common.{◌∙◌, arith, refl, rules}
use Rattle.std.proofs.lemmas.Grind.{common_steps}
use Rattle.lnt_io.proofs.PrefixLaws.{so_stopped}
use Rattle.lnt_dump.proofs.Frames.{long_since, next_framed}
use Rattle.lnt_dump.proofs.Dumps.{units_broken, units_cut, units_end, units_fault_cut, units_faulty, units_more, units_none, units_stay}
use Rattle.lnt_dump.proofs.dump.print_each.Goals as goal

pub loop-page-init : goal.loop-page-init
loop-page-init g c = record {
  reading = c.requires.reading;
  failures = refl;
  name = refl;
  left = omega (arith, c.requires.offset);
  same_reference = refl;
  printed = units_none c.requires.order c.requires.offset refl;
}

pub returns-in_err-unit-clause-begun : goal.returns-in_err-unit-clause-begun
returns-in_err-unit-clause-begun g c =
    so_stopped c.from_residual.result _ (units_stay c.loop-page.invariant.printed)

pub returns-in-Fault-clause-printed : goal.returns-in-Fault-clause-printed
returns-in-Fault-clause-printed g c =
    units_faulty c.loop-page.invariant.printed (g.W.Write.contents c.print_fault.new.out) c.in-Fault.fault c.print_fault.result (rw
    c.in-Fault.is at c.in_ok-unit.ensures.next) c.print_fault.ensures.no c.print_fault.ensures.line

pub returns-in-Fault-clause-begun : goal.returns-in-Fault-clause-begun
returns-in-Fault-clause-begun g c =
    units_fault_cut c.loop-page.invariant.printed (g.W.Write.contents c.print_fault.new.out) c.in-Fault.fault c.print_fault.result (rw
    c.in-Fault.is at c.in_ok-unit.ensures.next) c.print_fault.ensures.prefix

pub returns-in-End-clause-printed : goal.returns-in-End-clause-printed
returns-in-End-clause-printed g c =
    units_end c.loop-page.invariant.printed (rw c.in-End.is at c.in_ok-unit.ensures.next)

pub returns-in_err-print_unit-clause-begun : goal.returns-in_err-print_unit-clause-begun
returns-in_err-print_unit-clause-begun g c =
    so_stopped c.from_residual-in_err-print_unit.result _ (units_cut c.in_ok-unit.ensures.order c.loop-page.invariant.printed (next_framed
    c.in-Unit.is c.in_ok-unit.ensures.next c.frame.ensures.offset c.frame.ensures.bytes c.frame.ensures.placed)
    c.in_err-print_unit.ensures.begun)

pub returns-then-eq-clause-printed : goal.returns-then-eq-clause-printed
returns-then-eq-clause-printed g c =
    units_broken c.in_ok-unit.ensures.order c.loop-page.invariant.printed (next_framed c.in-Unit.is c.in_ok-unit.ensures.next
    c.frame.ensures.offset c.frame.ensures.bytes c.frame.ensures.placed) c.in_ok-print_unit.ensures.printed (search rules)

pub loop-page-preserved : goal.loop-page-preserved
loop-page-preserved g c =
    let left = (rw c.in-Unit.is at c.in_ok-unit.ensures.left) tt in
    record {
      reading = search rules;
      failures = grind (arith, common_steps);
      name = c.in_ok-unit.ensures.failures.name ∙ c.loop-page.invariant.name;
      left = omega (arith, left, c.loop-page.invariant.left);
      same_reference = c.in_ok-unit.ensures.same_reference ∙ c.loop-page.invariant.same_reference;
      printed = units_more c.in_ok-unit.ensures.order c.loop-page.invariant.printed (next_framed c.in-Unit.is c.in_ok-unit.ensures.next
          c.frame.ensures.offset c.frame.ensures.bytes c.frame.ensures.placed) c.in_ok-print_unit.ensures.printed (λ no. search rules);
    }

pub returns-in_err-unit-clause-too_long : goal.returns-in_err-unit-clause-too_long
returns-in_err-unit-clause-too_long g c =
    let inv = c.loop-page.invariant in
    λ stop. long_since _ _ _ inv.printed.read inv.left (c.in_err-unit.ensures.too_long (grind (arith, common_steps)))
