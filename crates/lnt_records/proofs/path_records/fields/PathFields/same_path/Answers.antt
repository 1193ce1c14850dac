use Rattle.std.proofs.Common.{refl}
use Rattle.lnt_records.specs.PathLines.{path_field}
use Rattle.lnt_records.proofs.PathLineLaws.{same_paths}
use Rattle.lnt_records.proofs.path_records.fields.PathFields.same_path.Goals as goal

pub returns-in-Some-same-clause-same : goal.returns-in-Some-same-clause-same
returns-in-Some-same-clause-same g c =
    let same = c.in-Some-same.ensures (path_field (g.P.Paths.bytes_of c.args.paths.now)) c.requires.sums in
    let one = c.of-one.ensures in
    let other = c.of-other.ensures in
    same_paths c.in-Some-same.same _ _ _ _ refl refl (rw (one.unit, one.file, other.unit, other.file) at same)
