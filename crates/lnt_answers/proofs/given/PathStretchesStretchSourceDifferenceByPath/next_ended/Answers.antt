use Rattle.lnt_compare.specs.PathStretches.{stretch_of}
use Rattle.lnt_table.proofs.JudgedLemmas.{counts_of}
use Rattle.lnt_answers.proofs.given.PathStretchesStretchSourceDifferenceByPath.next_ended.Goals as goal

pub returns-in_default-clause-given : goal.returns-in_default-clause-given
returns-in_default-clause-given g c case given h =
    let counted = c.in_ok-difference.ensures.missed case.by_section case.by_table given h c.in_default.is in (
      rw c.in_default.is at c.in_ok-difference.ensures.given case.by_section case.by_table given h,
      counts_of case.by_table case.by_section _ _ counted.1 counted.0,
    )

pub stretch_end-requires : goal.stretch_end-requires
stretch_end-requires g c =
    let known = c.requires in (
      known.0.by_section,
      known.0.by_table,
      _,
      rw c.in-Some.is at c.in_ok-difference.ensures.given known.0.by_section known.0.by_table known.1 known.2,
    )

pub returns-clause-going : goal.returns-clause-going
returns-clause-going g c =
    let known = c.requires in (
      known.0,
      _,
      c.in_ok-end.ensures.given known.0.by_section known.0.by_table _
          (rw c.in-Some.is at c.in_ok-difference.ensures.given known.0.by_section known.0.by_table known.1 known.2),
    )

pub returns-clause-given : goal.returns-clause-given
returns-clause-given g c case given h =
    let told = rw c.in-Some.is at c.in_ok-difference.ensures.given case.by_section case.by_table given h in
    let going = rw c.in-Some.is at c.in_ok-difference.ensures.going case.by_section case.by_table given h in (
      c.in_ok-end.ensures.given case.by_section case.by_table _ told,
      c.in_ok-end.ensures.end case.by_section case.by_table _ (stretch_of c.in-Some.difference) told going,
    )
