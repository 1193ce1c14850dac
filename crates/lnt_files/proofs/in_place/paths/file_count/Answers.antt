use Rattle.std.proofs.Common.{rules}
use Rattle.lnt_files.proofs.in_place.paths.file_count.Goals as goal

pub returns : goal.returns
returns c = search rules
