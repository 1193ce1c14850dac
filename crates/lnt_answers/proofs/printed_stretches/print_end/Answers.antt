use Rattle.std.proofs.Common.{Option, subst, sym}
use Rattle.std.specs.Io.KnownBytes.{Appends}
use Rattle.std.proofs.KnownBytes.{Appends-nil}
use Rattle.lnt_io.specs.Prefixes.{AppendsPrefix}
use Rattle.lnt_io.proofs.PrefixLaws.{so_stopped}
use Rattle.lnt_table.specs.declared.within.CheckedWithin.{CheckedWithin}
use Rattle.lnt_spans.specs.declared.scope.Coverage.{Coverage}
use Rattle.lnt_answers.specs.Stepping.{end_text}
use Rattle.lnt_answers.specs.Verdicts.{checked_line}
use Rattle.lnt_answers.proofs.printed_stretches.print_end.Goals as goal

pub returns-in_default-clause-text : goal.returns-in_default-clause-text
returns-in_default-clause-text g c =
    subst (λ (coverage : Option Coverage). Appends (g.W.Write.contents c.args.out.now) (g.W.Write.contents c.args.out.now)
    (end_text c.args.report coverage)) (sym c.in_default.is)
    (Appends-nil (g.W.Write.contents c.args.out.now))

pub returns-clause-text : goal.returns-clause-text
returns-clause-text g c =
    subst (λ (coverage : Option Coverage). Appends (g.W.Write.contents c.args.out.now) (g.W.Write.contents c.print_line.new.out)
    (end_text c.args.report coverage)) (sym c.in-Some.is)
    (subst (λ (checked : CheckedWithin). Appends (g.W.Write.contents c.args.out.now) (g.W.Write.contents c.print_line.new.out)
    (checked_line c.args.report.at_least checked)) c.if_right-checked.ensures c.in_ok-print_line.ensures.line)

pub returns-in_err-print_line-clause-prefix : goal.returns-in_err-print_line-clause-prefix
returns-in_err-print_line-clause-prefix g c =
    so_stopped c.from_residual.result _
    (subst (λ (coverage : Option Coverage). AppendsPrefix (g.W.Write.contents c.args.out.now) (g.W.Write.contents c.print_line.new.out)
    (end_text c.args.report coverage)) (sym c.in-Some.is)
    (subst (λ (checked : CheckedWithin). AppendsPrefix (g.W.Write.contents c.args.out.now) (g.W.Write.contents c.print_line.new.out)
    (checked_line c.args.report.at_least checked)) c.if_right-checked.ensures c.in_err-print_line.ensures.prefix))
