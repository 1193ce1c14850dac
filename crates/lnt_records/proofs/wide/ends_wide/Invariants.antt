use Rattle.std.specs.Prelude.{◌<◌, List}
use Rattle.lnt_csv.specs.Reading.{HasRead, bytes_left, known_length}
use Rattle.lnt_records.specs.Table.{Fields}
use Rattle.lnt_records.proofs.PrefixLaws.{EndsIn}
use Rattle.lnt_records.proofs.wide.ends_wide.Given as goal

abbrev pub invariant-loop-row : goal.invariant-loop-row
invariant-loop-row l = (records : List Fields) × HasRead l.reader l.bytes records × (0 < l.fields → EndsIn records l.fields)

abbrev pub decreases-loop-row : goal.decreases-loop-row
decreases-loop-row l = known_length (bytes_left l.reader)
