use Rattle.lnt_records.specs.PathLines.{path_field}
use Rattle.lnt_records.proofs.path_records.fields.PathFields.summed.Goals as goal

pub returns-in-Some-clause-summed : goal.returns-in-Some-clause-summed
returns-in-Some-clause-summed g c = c.in-Some.ensures.2 (path_field (g.P.Paths.bytes_of c.args.paths.now)) c.requires.sums
