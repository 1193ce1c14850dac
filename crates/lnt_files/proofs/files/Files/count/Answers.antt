use Rattle.std.proofs.Common.{rules}
use Rattle.lnt_files.proofs.KeptLemmas.{kept_length}
use Rattle.lnt_files.proofs.files.Files.count.Goals as goal

pub returns : goal.returns
returns c = search (rules, kept_length)
