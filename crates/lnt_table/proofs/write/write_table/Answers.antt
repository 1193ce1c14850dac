use Rattle.std.proofs.Common.{List, subst, inr}
use Rattle.std.proofs.lemmas.Result.{on_err_weaker}
use Rattle.lnt_spans.specs.declared.span.Span.{Span}
use Rattle.lnt_records.specs.Written.{BeginsTable}
use Rattle.lnt_writing.proofs.BegunLaws.{canonical_begins}
use Rattle.lnt_table.proofs.WriteLemmas.{told_in_version}
use Rattle.lnt_table.proofs.write.write_table.Goals as goal

pub write_spans-requires-clause-version : goal.write_spans-requires-clause-version
write_spans-requires-clause-version g c =
    rw c.deref.ensures.value
    (told_in_version c.args.version c.args.lines.now.spans c.in-Ok.spans.items c.in-Ok.ensures.whole c.in-Ok.ensures.canonical
    c.in-Ok.ensures.same)

pub returns-clause-begun : goal.returns-clause-begun
returns-clause-begun g c =
    on_err_weaker c.write_spans.result
    (λ begun. inr (canonical_begins c.args.version c.args.lines.now.spans c.in-Ok.spans.items _ _
    (c.in-Ok.ensures.canonical, c.in-Ok.ensures.same)
    (subst (λ (spans : List Span). BeginsTable c.args.version spans (g.W.Write.contents c.args.out.now)
    (g.W.Write.contents c.write_spans.new.out)) c.deref.ensures.value begun)))
    c.write_spans.ensures.begun
