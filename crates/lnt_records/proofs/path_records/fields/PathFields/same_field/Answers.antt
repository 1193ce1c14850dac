use Rattle.std.proofs.Common.{◌∙◌, refl}
use Rattle.lnt_records.specs.PathLines.{path_field}
use Rattle.lnt_records.proofs.PathLineLaws.{same_paths}
use Rattle.lnt_records.proofs.path_records.fields.PathFields.same_field.Goals as goal

pub returns-in-Some-clause-same : goal.returns-in-Some-clause-same
returns-in-Some-clause-same g c =
    let path = g.P.Paths.bytes_of c.args.paths.now in
    let first = c.in_ok-first.ensures in
    let second = c.in_ok-second.ensures in
    let same = c.in-Some.ensures (path_field path) first.summed second.summed in
    same_paths c.in-Some.same _ _ _ _ refl refl (rw (first.file.0, first.file.1, second.file.0, second.file.1) at same)

pub returns-clause-same : goal.returns-clause-same
returns-clause-same g c =
    same_paths c.in_ok-same.same _ _ _ _ refl (c.deref.ensures.value ∙ c.in_ok-field.ensures.field.1) c.in_ok-same.ensures.same
