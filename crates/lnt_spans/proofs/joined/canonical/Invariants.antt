use Rattle.std.proofs.Common.{drop}
use Rattle.lnt_spans.proofs.ToldLaws.{told}
use Rattle.lnt_spans.proofs.JoinLemmas.{Joining}
use Rattle.lnt_spans.proofs.joined.canonical.Given as goal

abbrev pub invariant-loop-span : goal.invariant-loop-span
invariant-loop-span l = Joining (told l.version l.spans) l.joined.items l.last (told l.version (drop l.span-index l.rest))
