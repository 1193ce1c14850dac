use Rattle.lnt_compare.specs.PathStretches.{stretch_of, stretches_of}
use Rattle.lnt_table.proofs.AskedLemmas.{first_told}
use Rattle.lnt_table.proofs.JudgedLemmas.{counts_of}
use Rattle.lnt_table.proofs.kept.ByPathKeptStretchesDifferenceByPath.next_kept.Goals as goal

pub returns-in_default-clause-given : goal.returns-in_default-clause-given
returns-in_default-clause-given g c f f' given h =
    let counted = c.in_ok-difference.ensures.missed f f' given h c.in_default.is in
    (rw c.in_default.is at c.in_ok-difference.ensures.given f f' given h, counts_of f' f _ _ counted.1 counted.0)

pub stretch_end-requires : goal.stretch_end-requires
stretch_end-requires g c =
    let known = c.requires in
    (known.0, known.1, _, rw c.in-Some.is at c.in_ok-difference.ensures.given known.0 known.1 known.2 known.3)

pub returns-clause-given : goal.returns-clause-given
returns-clause-given g c f f' given h =
    let told = rw c.in-Some.is at c.in_ok-difference.ensures.given f f' given h in
    let going = rw c.in-Some.is at c.in_ok-difference.ensures.going f f' given h in (
      c.in_ok-end.ensures.given f f' _ told,
      first_told f f' _ _ _ (stretches_of _) told.given.below,
      c.in_ok-end.ensures.end f f' _ (stretch_of c.in-Some.difference) told going,
    )
