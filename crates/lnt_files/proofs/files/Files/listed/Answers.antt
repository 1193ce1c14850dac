use Rattle.std.proofs.Common.{rules}
use Rattle.lnt_files.proofs.KeptLemmas.{kept_sum_is}
use Rattle.lnt_files.proofs.files.Files.listed.Goals as goal

pub returns : goal.returns
returns c = search (rules, kept_sum_is)
