use Rattle.lnt_spans.proofs.MergedLemmas.{counted_gap, gap_found, gap_kept, gap_later, none_missed}
use Rattle.lnt_spans.proofs.merge.pass_gap.Goals as goal
use Rattle.lnt_spans.proofs.merge.pass_gap.Goals.{then-is_none+in_ok-difference+in-Some-1, then-is_none+in_ok-difference+in-None-1}
use Rattle.lnt_spans.proofs.merge.pass_gap.Goals.{else-is_none}

pub returns-in_default : goal.returns-in_default
returns-in_default g c list by_table at le nothing counted gap = (
  counted_gap g.S.SpanSource.to_come (g.T.Telling.tell c.args.telling.now) list by_table c.args.spans.now at c.args.end c.args.missed.now
      c.in_default.ensures le nothing counted,
  gap_later _ (g.T.Telling.tell c.args.telling.now) list by_table at c.args.end le
      (none_missed g.S.SpanSource.to_come (g.T.Telling.tell c.args.telling.now) list by_table c.args.spans.now at c.args.end
      c.in_default.ensures counted.passed) gap,
)

pub returns : goal.returns
returns g c list by_table at le nothing counted gap =
    let tell = g.T.Telling.tell c.args.telling.now in
    let value_of = g.T.Telling.value_of in
    let found = gap_found g.S.SpanSource.to_come tell value_of list by_table c.args.spans.now at c.args.end c.in-Some.span c.args.gap.now
    c.in-Some.ensures.0 c.in-Some.ensures.1 nothing counted.passed gap in (
      c.pass_below.ensures tell list by_table at le nothing counted,
      elim c.if-is_none.branch [
        | then-is_none+in_ok-difference+in-Some-1 w ↦
            rw w.gap-is (found w.in_ok-difference.field-0 w.if-is_none.ensures w.in_ok-difference.ensures)
        | then-is_none+in_ok-difference+in-None-1 w ↦
            rw w.gap-is (found w.in_ok-difference.field-0 w.if-is_none.ensures w.in_ok-difference.ensures)
        | else-is_none w ↦ rw w.gap-is (gap_kept tell value_of list by_table at c.args.end c.args.gap.now le w.if-is_none.ensures gap)
      ],
    )
