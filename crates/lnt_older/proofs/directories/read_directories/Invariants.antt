use Rattle.std.specs.Prelude.{◌∷◌, List}
use Rattle.lnt_csv.specs.Reading.{HasRead, bytes_left, known_length}
use Rattle.lnt_csv.specs.Records.{Fields}
use Rattle.lnt_older.specs.Directories.{AreRecords, directory_names}
use Rattle.lnt_older.proofs.directories.read_directories.Given as goal

abbrev pub invariant-loop-directories : goal.invariant-loop-directories
invariant-loop-directories l = (records : List Fields) × HasRead l.reader l.text (directory_names ∷ records)
    × AreRecords l.older records l.directories.items

abbrev pub decreases-loop-directories : goal.decreases-loop-directories
decreases-loop-directories l = known_length (bytes_left l.reader)
