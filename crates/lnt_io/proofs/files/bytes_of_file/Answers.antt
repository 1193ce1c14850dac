use Rattle.std.proofs.Common.{rules}
use Rattle.lnt_io.proofs.files.bytes_of_file.Goals as goal

pub returns-clause-err : goal.returns-clause-err
returns-clause-err g c = search rules
