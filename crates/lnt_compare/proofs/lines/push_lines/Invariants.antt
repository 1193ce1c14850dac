use Rattle.std.specs.Prelude.{◌≡◌, ◌+◌, ◌*◌, ℕ, List, All, length}
use Rattle.lnt_compare.specs.Passing.{HasTakenLines, Passes}
use Rattle.lnt_records.specs.PathLines.{IsPlainByte}
use Rattle.lnt_compare.proofs.lines.push_lines.Given as goal

abbrev pub invariant-loop-last : goal.invariant-loop-last
invariant-loop-last g l = (text : List ℕ) × (g.T.Source.failures l.source ≡ g.T.Source.failures l.initial.source)
    × g.L.TakesRecords.is_right l.telling l.state × All IsPlainByte l.last.items
    × Passes (g.T.Source.remaining l.initial.source) (g.T.Source.remaining l.source) (g.T.Source.left l.initial.source)
    (g.T.Source.left l.source) l.initial.window l.window text
    × HasTakenLines g.L.LineTelling.format g.L.LineTelling.plain (g.L.LineTelling.version l.telling) (g.L.TakesRecords.judges l.telling)
    l.initial.state l.state text l.fn.number l.number
    × (g.T.Source.name l.source ≡ g.T.Source.name l.initial.source)

abbrev pub decreases-loop-last : goal.decreases-loop-last
decreases-loop-last g l = length l.window + 2 * g.T.Source.left l.source
