use Rattle.std.proofs.Common.{◌≡◌, ◌+◌, vec_len}
use Rattle.lnt_io.specs.Pulling.{Pulls}
use Rattle.lnt_io.proofs.reading.read_all.Given as goal

abbrev pub invariant-loop-all : goal.invariant-loop-all
invariant-loop-all g l = record {
  failures : g.R.Source.failures l.source ≡ g.R.Source.failures l.initial.source;
  name : g.R.Source.name l.source ≡ g.R.Source.name l.initial.source;
  left : g.R.Source.left l.source + vec_len l.all ≡ g.R.Source.left l.initial.source;
  pulls : Pulls (g.R.Source.remaining l.initial.source) (g.R.Source.remaining l.source) l.all.items;
}

abbrev pub decreases-loop-all : goal.decreases-loop-all
decreases-loop-all g l = g.R.Source.left l.source
