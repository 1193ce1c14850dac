use Rattle.std.proofs.Common.{take}
use Rattle.lnt_lines.specs.Light.{HasCollected}
use Rattle.lnt_lines.proofs.light.collect_passed.Given as goal

abbrev pub invariant-loop-each : goal.invariant-loop-each
invariant-loop-each l = HasCollected l.fn.dead l.fn.unit (take l.each-index l.fn.passed) l.watch l.fn.collected l.collected l.places.items
