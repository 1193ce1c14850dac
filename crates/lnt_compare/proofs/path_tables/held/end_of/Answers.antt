use Rattle.std.proofs.Common.{◌∙◌, sym}
use Rattle.lnt_compare.proofs.HeldLemmas.{end_last}
use Rattle.lnt_compare.proofs.path_tables.held.end_of.Goals as goal

pub returns-in-Some : goal.returns-in-Some
returns-in-Some c = c.whole.ensures ∙ end_last c.args.spans.now c.in-Some.last.now (sym (rw c.in-Some.is at c.last.ensures.value))
