use Rattle.std.proofs.Common.{◌≡◌, ◌∙◌, ap}
use Rattle.lnt_records.specs.KeptPaths.{text_sum}
use Rattle.lnt_records.specs.PathLines.{field_with_comma, path_field}
use Rattle.lnt_records.proofs.path_records.fields.PathFields.first_of.Goals as goal

pub returns-in_ok-keep-clause-kept : goal.returns-in_ok-keep-clause-kept
returns-in_ok-keep-clause-kept g c =
    let path = g.P.Paths.bytes_of c.args.paths.now in
    let known = c.in-Some.ensures.2 (path_field path) c.requires.sums in
    let same : path_field path c.in-Some.known.file.unit c.in-Some.known.file.file ≡ path_field path c.args.file.unit c.args.file.file =
    rw (c.in-Some.ensures.0, c.in-Some.ensures.1) (ap field_with_comma c.first_of-first.ensures.same) in
    let summed = c.in_ok-keep.ensures (path_field path) c.requires.sums in
    record {
      texts = c.requires.texts;
      sums = summed (record { sum = known.sum ∙ ap text_sum same; first = known.first ∙ same });
      pairs = rw c.first_of-first.ensures.pairs c.requires.pairs;
    }
