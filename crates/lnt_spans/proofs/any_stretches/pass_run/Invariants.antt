use Rattle.std.proofs.Common.{◌≡◌, ◌≤◌, List, Option, IfSome, IsTrue}
use Rattle.lnt_spans.specs.AnyStretches.{Stretch, Position}
use Rattle.lnt_spans.specs.Runs.{IsBefore, runs_left}
use Rattle.lnt_spans.specs.Stepping.{IsInRun}
use Rattle.lnt_spans.specs.Stretching.{HasGiven}
use Rattle.lnt_spans.proofs.any_stretches.pass_run.Given as goal

abbrev pub invariant-loop-step : goal.invariant-loop-step
invariant-loop-step g l = record {
  sound : g.T.Telling.is_sound l.telling l.memory;
  recalled : IfSome l.run.answer (g.T.Telling.recalls l.telling l.recalled);
  past : IsBefore l.stretches.at l.run.end;
  table : l.stretches.table ≡ l.fn.stretches.table;
  same : IsTrue l.is_same → l.stretches.before.table ≡ l.run.answer;
  told : (by_section by_table : Position → Option g.T.Telling.Told) (told : List (Stretch g.T.Telling.Told))
      → HasGiven g.S.SpanSource.to_come g.N.Runs.is_at g.N.Runs.value_of (g.T.Telling.tell l.telling) g.T.Telling.said
      l.fn.stretches by_section by_table told
      → HasGiven g.S.SpanSource.to_come (IsInRun g.N.Runs.is_at g.N.Runs.value_of l.run l.fn.stretches.at) g.N.Runs.value_of
      (g.T.Telling.tell l.telling) g.T.Telling.said l.stretches by_section by_table told;
  fewer : runs_left l.stretches.at l.stretches.section.next (g.S.SpanSource.left l.stretches.section.spans)
      ≤ runs_left l.fn.stretches.at l.fn.stretches.section.next (g.S.SpanSource.left l.fn.stretches.section.spans);
}

abbrev pub decreases-loop-step : goal.decreases-loop-step
decreases-loop-step g l = runs_left l.stretches.at l.stretches.section.next (g.S.SpanSource.left l.stretches.section.spans)
