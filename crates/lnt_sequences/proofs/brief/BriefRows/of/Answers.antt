use Rattle.std.proofs.Common.{◌∙◌, refl, sym, subst}
use Rattle.lnt_sequences.specs.declared.brief.BriefRows.{BriefRows}
use Rattle.lnt_sequences.specs.Briefs.{AreKept}
use Rattle.lnt_sequences.proofs.BriefLemmas.{kept_all, kept_more, kept_none, kept_some, was_kept, wasnt_kept}
use Rattle.lnt_sequences.proofs.brief.BriefRows.of.Goals as goal

pub loop-init : goal.loop-init
loop-init c = (refl, λ list will. kept_none list _ c.args.rows c.new.ensures.items will)

pub returns-then-not-branch : goal.returns-then-not-branch
returns-then-not-branch c list will = kept_some list c.add_short.new.self
    (wasnt_kept _ _ c.in_ok-add_short.field-0 (c.in_ok-add_short.ensures.kept list (c.loop.invariant.1 list will)) c.if-not-branch.true)
    (c.add_short.ensures.part ∙ c.loop.invariant.0)

pub returns-in_default : goal.returns-in_default
returns-in_default c list will = kept_all list c.add_short.new.self _ c.add_short.new.left c.next-in-loop.new.self
    (was_kept _ _ c.in_ok-add_short.field-0 (c.in_ok-add_short.ensures.kept list (c.loop.invariant.1 list will)) c.if-not-branch.false)
    c.in_default.ensures.steps refl refl

pub returns-then-not-branch-2 : goal.returns-then-not-branch-2
returns-then-not-branch-2 c list will =
    let short = was_kept _ _ c.in_ok-add_short.field-0 (c.in_ok-add_short.ensures.kept list (c.loop.invariant.1 list will))
    c.if-not-branch.false in
    let same = wasnt_kept _ _ c.in_ok-add.field-0 c.in_ok-add.ensures.kept c.if-not-branch-2.true in
    kept_some list c.add.new.self (c.add_short.new.left, subst (λ (b : BriefRows). AreKept list b c.add_short.new.left) (sym same) short)
    (c.add.ensures.part ∙ c.add_short.ensures.part ∙ c.loop.invariant.0)

pub loop-preserved : goal.loop-preserved
loop-preserved c = (
  c.add.ensures.part ∙ c.add_short.ensures.part ∙ c.loop.invariant.0,
  λ list will. kept_more list c.add_short.new.self c.add.new.self c.add_short.new.left c.next-in-loop.new.self c.in-Some.row
      (was_kept _ _ c.in_ok-add_short.field-0 (c.in_ok-add_short.ensures.kept list (c.loop.invariant.1 list will)) c.if-not-branch.false)
      c.in-Some.ensures.steps (was_kept _ _ c.in_ok-add.field-0 c.in_ok-add.ensures.kept c.if-not-branch-2.false) c.add.ensures.base,
)

pub returns : goal.returns
returns c list will = kept_some list c.loop.brief (c.loop.left, c.loop.invariant.1 list will) c.loop.invariant.0
