use Rattle.std.proofs.Common.{◌≡◌, ◌+◌, length}
use Rattle.lnt_io.specs.Pulling.{Pulls}
use Rattle.lnt_unit.specs.Spelled.{IsLeastSize}
use Rattle.lnt_unit.proofs.taking.take_unit_bytes.Given as goal

abbrev pub invariant-loop-order : goal.invariant-loop-order
invariant-loop-order g l = record {
  failures : g.R.Source.failures l.source ≡ g.R.Source.failures l.initial.source;
  name : g.R.Source.name l.source ≡ g.R.Source.name l.initial.source;
  left : g.R.Source.left l.source + length l.taken.items ≡ g.R.Source.left l.initial.source;
  pulls : Pulls (g.R.Source.remaining l.initial.source) (g.R.Source.remaining l.source) l.taken.items;
  least : IsLeastSize l.order l.taken.items (length l.taken.items);
}

abbrev pub decreases-loop-order : goal.decreases-loop-order
decreases-loop-order g l = g.R.Source.left l.source
