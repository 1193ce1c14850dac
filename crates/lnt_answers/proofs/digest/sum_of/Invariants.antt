use Rattle.std.proofs.Common.{◌≡◌}
use Rattle.lnt_answers.proofs.DigestLemmas.{Summed}
use Rattle.lnt_answers.proofs.digest.sum_of.Given as goal

abbrev pub invariant-loop-count : goal.invariant-loop-count
invariant-loop-count g l =
    (g.R.Source.name l.source ≡ g.R.Source.name l.initial.source) × (g.R.Source.failures l.source ≡ g.R.Source.failures l.initial.source)
    × Summed l.hasher (g.R.Source.remaining l.initial.source) (g.R.Source.remaining l.source) (g.R.Source.left l.initial.source)
    (g.R.Source.left l.source)

abbrev pub decreases-loop-count : goal.decreases-loop-count
decreases-loop-count g l = g.R.Source.left l.source
