use Rattle.std.proofs.Common.{subst, sym}
use Rattle.lnt_sequences.specs.Copies.{AreExtentsOf}
use Rattle.lnt_lines.proofs.SectionLemmas.{indexed, indexed_with_copies, whole_draft}
use Rattle.lnt_lines.proofs.section.judge_section.Goals as goal

pub index-requires : goal.index-requires
index-requires g c = whole_draft c.args.strings.now.line.now c.args.strings.now.general.now c.args.options.now _
    c.in_ok-draft.draft c.in_ok-draft.ensures.draft

pub returns-clause-good : goal.returns-clause-good
returns-clause-good g c =
    let done = c.in_ok-index.ensures in
    rw (← c.new-reader.ensures.source)
    (indexed c.args.strings.now.line.now c.args.strings.now.general.now c.args.options.now _ c.in_ok-draft.draft c.in_ok-index.field-0
    c.in_ok-draft.ensures.draft done.apart done.index done.line done.general)

pub returns-clause-copies : goal.returns-clause-copies
returns-clause-copies g c asked =
    let done = c.in_ok-index.ensures in
    rw (← c.new-reader.ensures.source)
    (indexed_with_copies c.args.strings.now.line.now c.args.strings.now.general.now c.args.options.now _ c.in_ok-draft.draft
    c.in_ok-index.field-0 c.in_ok-draft.ensures.draft done.apart done.index done.line done.general
    (λ sequences collects. subst (AreExtentsOf sequences) (sym done.live) (c.in_ok-live.ensures asked sequences collects)))
