use Rattle.std.proofs.Common.{◌≡◌, ◌∙◌, sym}
use Rattle.lnt_table.specs.declared.kinds.OfKind.TheVariants.{Numbered}
use Rattle.lnt_table.specs.declared.verdict.TableNo.TheVariants as no
use Rattle.lnt_table.specs.declared.verdict.Verdict.TheVariants.{No}
use Rattle.lnt_table.specs.declared.within.CheckedWithin.TheVariants.{Checked as Told}
use Rattle.lnt_table.proofs.JudgedLemmas.{not_within, of_scope, scope_told, section_within}
use Rattle.lnt_table.proofs.within.check_within.Goals as goal

pub returns-clause-checked : goal.returns-clause-checked
returns-clause-checked g c =
    scope_told c.args.scope c.args.strings.now.line.now c.args.strings.now.general.now c.args.options.now
    (g.R.Source.remaining c.args.section.now) (g.T.Source.remaining c.args.table.now) c.in-Good.index c.in_ok-judged.judged _
    (rw c.in-Good.is at c.in_ok-index.ensures.judged) c.in_ok-judged.ensures.ok c.told.ensures

pub returns-clause-of_section : goal.returns-clause-of_section
returns-clause-of_section g c =
    rw c.told.ensures
    (section_within c.args.strings.now.line.now c.args.strings.now.general.now c.args.options.now (g.R.Source.remaining c.args.section.now)
    c.in-Good.index c.args.scope c.in_ok-judged.judged (rw c.in-Good.is at c.in_ok-index.ensures.judged))

pub returns-clause-of_scope : goal.returns-clause-of_scope
returns-clause-of_scope g c =
    rw c.told.ensures (of_scope c.args.scope c.in_ok-judged.judged)

pub returns-clause-unread : goal.returns-clause-unread
returns-clause-unread g c reason e =
    let same : c.told.result ≡ Told (Numbered (No (no.Section reason))) = cc in
    absurd (not_within c.args.scope c.in_ok-judged.judged reason (sym c.told.ensures ∙ same))
