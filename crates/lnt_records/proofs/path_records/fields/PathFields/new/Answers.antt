use Rattle.lnt_records.specs.PathLines.{path_field}
use Rattle.lnt_records.proofs.path_records.fields.PathFields.new.Goals as goal

pub returns : goal.returns
returns c path =
    let texts = c.in_ok-texts.ensures (path_field path) in
    record { texts = texts; sums = c.empty-sums.ensures (path_field path); pairs = c.empty-alike.ensures path }
