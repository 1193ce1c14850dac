use Rattle.std.proofs.Common.{refl}
use Rattle.lnt_spans.specs.Differences.{stretches_of}
use Rattle.lnt_table.proofs.AskedLemmas.{first_told}
use Rattle.lnt_table.proofs.JudgedLemmas.{counts_of}
use Rattle.lnt_table.proofs.kept.ByNumberKeptStretchesDifference.next_kept.Goals as goal

pub returns-in_default-clause-given : goal.returns-in_default-clause-given
returns-in_default-clause-given g c f f' given h =
    let counted = c.in_default.ensures.missed f f' given h refl in
    (c.in_default.ensures.given f f' given h, counts_of f' f _ _ counted.1 counted.0)

pub stretch_end-end-requires : goal.stretch_end-end-requires
stretch_end-end-requires g c =
    let known = c.requires in
    (known.0, known.1, _, c.in-Some.ensures.given known.0 known.1 known.2 known.3)

pub returns-clause-given : goal.returns-clause-given
returns-clause-given g c f f' given h =
    let told = c.in-Some.ensures.given f f' given h in (
      c.stretch_end-end.ensures.given f f' _ told,
      first_told f f' _ _ _ (stretches_of _) told.below,
      c.stretch_end-end.ensures.end f f' _ c.in-Some.difference told (c.in-Some.ensures.going f f' given h),
    )
