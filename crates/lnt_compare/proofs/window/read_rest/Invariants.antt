use Rattle.std.proofs.Common.{◌≡◌, []}
use Rattle.lnt_compare.specs.Passing.{Passes}
use Rattle.lnt_compare.proofs.window.read_rest.Given as goal

abbrev pub invariant-loop : goal.invariant-loop
invariant-loop g l = record {
  failures : g.T.Source.failures l.source ≡ g.T.Source.failures l.initial.source;
  name : g.T.Source.name l.source ≡ g.T.Source.name l.initial.source;
  taken : Passes (g.T.Source.remaining l.initial.source) (g.T.Source.remaining l.source) (g.T.Source.left l.initial.source)
      (g.T.Source.left l.source) l.initial.all.items l.all.items [];
}

abbrev pub decreases-loop : goal.decreases-loop
decreases-loop g l = g.T.Source.left l.source
