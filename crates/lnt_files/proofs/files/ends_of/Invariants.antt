use Rattle.lnt_files.proofs.KeptLemmas.{KeepsSeen}
use Rattle.lnt_files.proofs.files.ends_of.Given as goal

abbrev pub invariant-loop : goal.invariant-loop
invariant-loop l = KeepsSeen l.fn.strings.line.now l.fn.strings.general.now l.fn.header l.entries l.counter l.paths.items l.kept.items
