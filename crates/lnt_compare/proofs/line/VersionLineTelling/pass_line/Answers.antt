use Rattle.lnt_compare.proofs.LineLemmas.{number_line}
use Rattle.lnt_compare.proofs.line.VersionLineTelling.pass_line.Goals as goal

pub returns-clause-passed : goal.returns-clause-passed
returns-clause-passed g c = (
  c.fill.new.self,
  c.in_ok-fill.ensures.taken,
  number_line c.pass_line.result c.args.self.now c.args.span.now c.in_version.result c.fill.new.self c.pass_line.new.window
      c.in_version.ensures c.pass_line.ensures,
)
