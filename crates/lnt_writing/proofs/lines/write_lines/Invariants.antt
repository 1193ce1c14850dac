use Rattle.std.specs.Prelude.{List, map}
use Rattle.std.specs.List.{AllByRecursion}
use Rattle.lnt_spans.specs.declared.span.Span.{Span}
use Rattle.lnt_spans.specs.Spans.{AreInOrder}
use Rattle.lnt_records.proofs.LineLaws.{Lines}
use Rattle.lnt_compare.specs.Joining.{AreToJoin, LeaveOff, count_to_join}
use Rattle.lnt_writing.proofs.lines.write_lines.Given as goal

abbrev pub invariant-loop-block : goal.invariant-loop-block
invariant-loop-block g l = (given : List Span) × g.L.Telling.is_sound l.telling l.memory
    × (AllByRecursion (g.L.LineWriting.has_line l.telling) given → Lines g.L.LineWriting.plain (g.L.LineWriting.version l.telling)
    (g.W.Write.contents l.fn.out) (g.W.Write.contents l.out) l.block.items (map (g.L.LineWriting.told l.telling) given))
    × ((list : List Span) → g.S.SpanSource.to_come l.fn.spans list → AreInOrder list
    → LeaveOff (g.L.Telling.tell l.telling) (AreToJoin g.S.SpanSource.to_come l.joined) list given)

abbrev pub decreases-loop-block : goal.decreases-loop-block
decreases-loop-block g l = count_to_join g.S.SpanSource.left l.joined
