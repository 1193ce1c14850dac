use Rattle.std.proofs.Common.{refl}
use Rattle.lnt_table.proofs.JudgedLemmas.{counts_of}
use Rattle.lnt_answers.proofs.given.DifferencesStretchSourceDifference.next_ended.Goals as goal

pub returns-in_default-clause-given : goal.returns-in_default-clause-given
returns-in_default-clause-given g c case given h =
    let counted = c.in_default.ensures.missed case.by_section case.by_table given h refl in
    (c.in_default.ensures.given case.by_section case.by_table given h, counts_of case.by_table case.by_section _ _ counted.1 counted.0)

pub stretch_end-end-requires : goal.stretch_end-end-requires
stretch_end-end-requires g c =
    let known = c.requires in
    (known.0.by_section, known.0.by_table, _, c.in-Some.ensures.given known.0.by_section known.0.by_table known.1 known.2)

pub returns-clause-going : goal.returns-clause-going
returns-clause-going g c =
    let known = c.requires in (
      known.0,
      _,
      c.stretch_end-end.ensures.given known.0.by_section known.0.by_table _
          (c.in-Some.ensures.given known.0.by_section known.0.by_table known.1 known.2),
    )

pub returns-clause-given : goal.returns-clause-given
returns-clause-given g c case given h =
    let told = c.in-Some.ensures.given case.by_section case.by_table given h in (
      c.stretch_end-end.ensures.given case.by_section case.by_table _ told,
      c.stretch_end-end.ensures.end case.by_section case.by_table _ c.in-Some.difference told
          (c.in-Some.ensures.going case.by_section case.by_table given h),
    )
