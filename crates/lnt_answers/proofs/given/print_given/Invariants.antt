use Rattle.std.proofs.Common.{◌≡◌, []}
use Rattle.lnt_answers.proofs.GivenLemmas.{HasPrinted}
use Rattle.lnt_answers.proofs.given.print_given.Given as goal

abbrev pub invariant-loop-lines : goal.invariant-loop-lines
invariant-loop-lines g l =
    (l.lines.scope ≡ l.fn.scope) × g.G.StretchSource.can_go_on l.given
    × ((case : g.G.StretchSource.Case) → g.G.StretchSource.has_given l.fn.given case []
    → HasPrinted g.D.ShownStretch.shown g.D.ShownStretch.answered (g.G.StretchSource.ends_at case) l.fn.ends l.fn.scope
    (g.G.StretchSource.has_given l.given case) (g.W.Write.contents l.fn.out) (g.W.Write.contents l.out) l.lines.is_right)

abbrev pub decreases-loop-lines : goal.decreases-loop-lines
decreases-loop-lines g l = g.G.StretchSource.left l.given
