use Rattle.std.proofs.Common.{rules}
use Rattle.lnt_sequences.proofs.watch.names_no_file.Goals as goal

pub returns-then-not-row : goal.returns-then-not-row
returns-then-not-row c = search rules
