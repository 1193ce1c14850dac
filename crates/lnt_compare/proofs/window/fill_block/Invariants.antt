use Rattle.std.proofs.Common.{◌≡◌, []}
use Rattle.lnt_compare.specs.Passing.{Passes}
use Rattle.lnt_compare.proofs.window.fill_block.Given as goal

abbrev pub invariant-loop-source : goal.invariant-loop-source
invariant-loop-source g l = record {
  failures : g.T.Source.failures l.source ≡ g.T.Source.failures l.initial.source;
  name : g.T.Source.name l.source ≡ g.T.Source.name l.initial.source;
  taken : Passes (g.T.Source.remaining l.initial.source) (g.T.Source.remaining l.source) (g.T.Source.left l.initial.source)
      (g.T.Source.left l.source) l.initial.block.items l.block.items [];
}

abbrev pub decreases-loop-source : goal.decreases-loop-source
decreases-loop-source g l = g.T.Source.left l.source
