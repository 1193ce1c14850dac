use Rattle.std.proofs.Common.{◌≡◌, ◌∙◌, sym}
use Rattle.std.proofs.lemmas.Option.{IfSome_then}
use Rattle.lnt_table.specs.declared.kinds.OfKind.TheVariants.{Numbered}
use Rattle.lnt_table.specs.declared.verdict.TableNo.TheVariants as no
use Rattle.lnt_table.specs.declared.verdict.Verdict.TheVariants.{No}
use Rattle.lnt_table.specs.declared.within.CheckedWithin.TheVariants.{Checked as Told}
use Rattle.lnt_table.specs.AnyCopy.{skipping}
use Rattle.lnt_table.proofs.AnyCopyLemmas.{any_told}
use Rattle.lnt_table.proofs.JudgedLemmas.{not_within, of_scope, section_within}
use Rattle.lnt_table.proofs.any_copy.check_any_copy.Goals as goal

pub returns-clause-checked : goal.returns-clause-checked
returns-clause-checked g c =
    any_told c.args.scope c.args.strings.now.line.now c.args.strings.now.general.now (skipping c.args.options.now)
    (g.R.Source.remaining c.args.section.now) (g.T.Source.remaining c.args.table.now) c.in-Good.index c.in_ok-asked.asked _
    (rw c.in-Good.is at c.in_ok-index.ensures.judged) c.in_ok-asked.ensures.ok c.told.ensures

pub returns-clause-of_section : goal.returns-clause-of_section
returns-clause-of_section g c =
    rw c.told.ensures
    (section_within c.args.strings.now.line.now c.args.strings.now.general.now (skipping c.args.options.now)
    (g.R.Source.remaining c.args.section.now) c.in-Good.index c.args.scope c.in_ok-asked.asked
    (IfSome_then (g.R.Source.remaining c.args.section.now) (rw c.in-Good.is at c.in_ok-index.ensures.judged) (λ bytes is. is.indexed)))

pub returns-clause-of_scope : goal.returns-clause-of_scope
returns-clause-of_scope g c =
    rw c.told.ensures (of_scope c.args.scope c.in_ok-asked.asked)

pub returns-clause-unread : goal.returns-clause-unread
returns-clause-unread g c reason e =
    let same : c.told.result ≡ Told (Numbered (No (no.Section reason))) = cc in
    absurd (not_within c.args.scope c.in_ok-asked.asked reason (sym c.told.ensures ∙ same))
