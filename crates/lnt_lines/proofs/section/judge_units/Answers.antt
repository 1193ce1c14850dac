use Rattle.std.proofs.Common.{◌∙◌, arith}
use Rattle.std.proofs.lemmas.Grind.{common_steps}
use Rattle.std.proofs.lemmas.Result.{err_from_is_err_and}
use Rattle.lnt_unit.specs.Units.{IsNextUnit}
use Rattle.lnt_lines.proofs.SectionLemmas.{judged_more, stop_refused, unit_refused}
use Rattle.lnt_lines.proofs.section.judge_units.Goals as goal
use Rattle.lnt_unit.specs.Readers.{offset_of, order_of, source_of}

pub returns-in-Err-clause-bad : goal.returns-in-Err-clause-bad
returns-in-Err-clause-bad g c =
    let inv = c.loop-buffer.invariant in
    stop_refused c.args.strings.now.line.now c.args.strings.now.general.now c.args.options.now
    (g.R.Source.remaining (source_of c.args.reader.now)) (g.R.Source.remaining (source_of c.loop-buffer.reader))
    (order_of c.loop-buffer.reader) (offset_of c.loop-buffer.reader) c.loop-buffer.draft c.in-Err.stop c.of_stop.result inv.judged
    inv.order_is
    c.in-Err.ensures.fault c.of_stop.ensures

pub returns-in_err-room-in-Ok-Some-clause-bad : goal.returns-in_err-room-in-Ok-Some-clause-bad
returns-in_err-room-in-Ok-Some-clause-bad g c =
    let p = err_from_is_err_and c.from_residual.result c.from_residual.ensures.1 in
    let inv = c.loop-buffer.invariant in
    let next : IsNextUnit (offset_of c.loop-buffer.reader) (order_of c.loop-buffer.reader)
    (g.R.Source.remaining (source_of c.loop-buffer.reader))
    (g.R.Source.remaining (source_of c.next_unit_in.new.self)) c.in-Ok-Some.buffer =
    rw c.in-Ok-Some.field-0-is at c.in-Ok-Some.ensures.unit in
    rw (p.1, p.2) (unit_refused c.args.strings.now.line.now c.args.strings.now.general.now c.args.options.now
    (g.R.Source.remaining (source_of c.args.reader.now)) (g.R.Source.remaining (source_of c.loop-buffer.reader))
    (g.R.Source.remaining (source_of c.next_unit_in.new.self)) (order_of c.loop-buffer.reader) (offset_of c.loop-buffer.reader)
    c.in-Ok-Some.buffer
    c.loop-buffer.draft c.in_err-room-in-Ok-Some.field-0.0
    inv.judged inv.order_is next (rw (c.of-ends.ensures.line, c.of-ends.ensures.general) at c.in_err-room-in-Ok-Some.ensures.err))

pub loop-buffer-preserved : goal.loop-buffer-preserved
loop-buffer-preserved g c =
    let inv = c.loop-buffer.invariant in
    let some = c.in-Ok-Some.field-0-is in
    let step = c.in-Ok-Some.ensures in
    let next : IsNextUnit (offset_of c.loop-buffer.reader) (order_of c.loop-buffer.reader)
    (g.R.Source.remaining (source_of c.loop-buffer.reader))
    (g.R.Source.remaining (source_of c.next_unit_in.new.self)) c.in-Ok-Some.buffer = rw some at step.unit in
    let goes_on = rw some at step.goes_on in
    let left = rw some at step.left in
    record {
      judged = judged_more c.args.strings.now.line.now c.args.strings.now.general.now c.args.options.now
          (g.R.Source.remaining (source_of c.args.reader.now)) (g.R.Source.remaining (source_of c.loop-buffer.reader))
          (g.R.Source.remaining (source_of c.next_unit_in.new.self)) (order_of c.loop-buffer.reader) (offset_of c.loop-buffer.reader)
          (offset_of c.next_unit_in.new.self) c.in-Ok-Some.buffer c.loop-buffer.draft c.add_unit.new.self
          inv.judged inv.order_is next goes_on.1
          (rw (c.of-ends.ensures.line, c.of-ends.ensures.general) at c.in_ok-room-in-Ok-Some.ensures.ok);
      order_is = step.order ∙ inv.order_is;
      reading = goes_on.0;
      failures = grind (arith, common_steps);
      name = step.failures.name ∙ inv.name;
      left = omega (arith, left, goes_on.1, inv.left);
      same_reference = step.same_reference ∙ inv.same_reference;
    }

pub returns-in-Err-clause-too_long : goal.returns-in-Err-clause-too_long
returns-in-Err-clause-too_long g c = grind (arith, common_steps)
