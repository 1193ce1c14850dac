use Rattle.std.proofs.Common.{rules}
use Rattle.lnt_sequences.proofs.EvidenceLemmas.{files_judged}
use Rattle.lnt_sequences.proofs.watch.Watch.missing_file.Goals as goal

pub returns : goal.returns
returns c = search (rules, files_judged)
