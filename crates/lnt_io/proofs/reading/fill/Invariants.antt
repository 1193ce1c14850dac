use Rattle.std.proofs.Common.{◌≡◌, ◌+◌, ◌-◌, ◌≤◌, length, take}
use Rattle.lnt_io.specs.Pulling.{Pulls}
use Rattle.lnt_io.proofs.reading.fill.Given as goal

abbrev pub invariant-loop-filled : goal.invariant-loop-filled
invariant-loop-filled g l = record {
  bound : l.filled ≤ length l.room;
  failures : g.R.Source.failures l.source ≡ g.R.Source.failures l.initial.source;
  name : g.R.Source.name l.source ≡ g.R.Source.name l.initial.source;
  left : g.R.Source.left l.source + l.filled ≡ g.R.Source.left l.initial.source;
  pulls : Pulls (g.R.Source.remaining l.initial.source) (g.R.Source.remaining l.source) (take l.filled l.room);
}

abbrev pub decreases-loop-filled : goal.decreases-loop-filled
decreases-loop-filled g l = length l.initial.room - l.filled
