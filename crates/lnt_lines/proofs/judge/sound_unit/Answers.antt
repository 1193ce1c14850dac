use Rattle.std.proofs.Common.{◌∙◌, refl}
use Rattle.lnt_lines.proofs.judge.sound_unit.Goals as goal

pub returns-clause-kept : goal.returns-clause-kept
returns-clause-kept c =
    let parts = c.into_parts-header.ensures in
    rw (c.in_ok-header.ensures ∙ parts.header, parts.program, c.shrink_to_fit.ensures.items) refl

pub returns-clause-within : goal.returns-clause-within
returns-clause-within c = c.into_parts-header.ensures.within
