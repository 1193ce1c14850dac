use Rattle.std.proofs.Common.{arith}
use Rattle.lnt_lines.specs.Judging.{kept_program_of}
use Rattle.lnt_lines.proofs.DraftLemmas.{added}
use Rattle.lnt_lines.proofs.draft.Draft.add_unit.Goals as goal

pub returns-clause-ok : goal.returns-clause-ok
returns-clause-ok c =
    added c.args.ends.now.line c.args.ends.now.general c.args.dead c.args.buffer c.args.self.now _ c.offset-offset.result
    (kept_program_of c.args.buffer c.in_ok-unit.unit) (rw c.keep.ensures.collected c.in_ok-unit.ensures.sound)
    c.offset-offset.ensures (grind arith) (grind arith)
