use Rattle.std.proofs.Common.{◌≤◌, List, Option, option_map}
use Rattle.lnt_spans.specs.AnyStretches.{Stretch, Position}
use Rattle.lnt_spans.specs.Stepping.{StaysUntil}
use Rattle.lnt_spans.specs.Stretching.{HasGiven, IsGoing, stretches_to_give}
use Rattle.lnt_spans.proofs.any_stretches.stretch_end.Given as goal

abbrev pub invariant-loop : goal.invariant-loop
invariant-loop g l = record {
  sound : g.T.Telling.is_sound l.telling l.memory;
  told : (by_section by_table : Position → Option g.T.Telling.Told) (told : List (Stretch g.T.Telling.Told))
      → HasGiven g.S.SpanSource.to_come g.N.Runs.is_at g.N.Runs.value_of (g.T.Telling.tell l.telling) g.T.Telling.said
      l.fn.stretches by_section by_table told
      → HasGiven g.S.SpanSource.to_come g.N.Runs.is_at g.N.Runs.value_of (g.T.Telling.tell l.telling) g.T.Telling.said
      l.stretches by_section by_table told;
  going : (by_section by_table : Position → Option g.T.Telling.Told) (told : List (Stretch g.T.Telling.Told))
      (last : Stretch g.T.Telling.Told)
      → HasGiven g.S.SpanSource.to_come g.N.Runs.is_at g.N.Runs.value_of (g.T.Telling.tell l.telling) g.T.Telling.said
      l.fn.stretches by_section by_table told
      → IsGoing (g.T.Telling.tell l.telling) g.T.Telling.said l.fn.stretches by_section by_table last
      → IsGoing (g.T.Telling.tell l.telling) g.T.Telling.said l.stretches by_section by_table last;
  stays : (by_section by_table : Position → Option g.T.Telling.Told) (told : List (Stretch g.T.Telling.Told))
      → HasGiven g.S.SpanSource.to_come g.N.Runs.is_at g.N.Runs.value_of (g.T.Telling.tell l.telling) g.T.Telling.said
      l.fn.stretches by_section by_table told
      → StaysUntil by_table l.stretches.at l.until (option_map g.T.Telling.said l.stretches.before.table);
  fewer : stretches_to_give g.S.SpanSource.left g.N.Runs.runs l.stretches
      ≤ stretches_to_give g.S.SpanSource.left g.N.Runs.runs l.fn.stretches;
}

abbrev pub decreases-loop : goal.decreases-loop
decreases-loop g l = stretches_to_give g.S.SpanSource.left g.N.Runs.runs l.stretches
