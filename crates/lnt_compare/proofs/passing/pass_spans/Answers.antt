use Rattle.std.proofs.Common.{◌∙◌, ℕ, List, [], ◌∷◌, ◌++◌, refl, subst, sym}
use Rattle.lnt_compare.specs.Passing.{Passes}
use Rattle.lnt_compare.proofs.JoiningLemmas.{left_first, left_more, left_next}
use Rattle.lnt_compare.proofs.PassingLemmas.{answered_pushed, filled, line_added, no_lines_of}
use Rattle.lnt_compare.proofs.WindowLaws.{passes_line, passes_none}
use Rattle.lnt_compare.proofs.passing.pass_spans.Goals as goal

pub loop-joined-init : goal.loop-joined-init
loop-joined-init g c = (
  [],
  [],
  refl,
  c.requires.sound,
  passes_none _ _ _,
  no_lines_of _ _ _ _,
  λ list come order. (left_first _ _ list (c.of-joined.ensures list come) order, refl),
  refl,
)

pub returns-then-not-branch-clause-ok : goal.returns-then-not-branch-clause-ok
returns-then-not-branch-clause-ok g c =
    let inv = c.loop-joined.invariant in
    let left = rw c.in-Some.is at c.in_ok-span.ensures.left in
    let passed = rw c.if-not-branch.true at c.in_ok-pass_line.ensures.passed in (
      inv.0,
      inv.1,
      subst (λ (window : List ℕ). Passes (g.T.Source.remaining c.args.source.now) (g.T.Source.remaining c.pass_line.new.source)
          (g.T.Source.left c.args.source.now) (g.T.Source.left c.pass_line.new.source) c.args.window.now window inv.0) (sym passed.2)
          (filled _ _ _ _ _ _ _ _ _ inv.0 inv.4 passed.1),
      inv.5,
      λ list come order. let off = inv.6 list come order in
          (left_next _ _ _ _ list inv.1 c.in-Some.span off.0 left c.remaining-spans.ensures, off.1),
    )

pub loop-joined-preserved : goal.loop-joined-preserved
loop-joined-preserved g c =
    let inv = c.loop-joined.invariant in
    let left = rw c.in-Some.is at c.in_ok-span.ensures.left in
    let passed = rw c.if-not-branch.false at c.in_ok-pass_line.ensures.passed in
    let line = passed.2.0 in (
      inv.0 ++ g.L.LineTelling.plain.line line.fields,
      inv.1 ++ c.in-Some.span ∷ [],
      c.in_ok-pass_line.ensures.failures.no_failure (λ e. cc e) ∙ inv.2,
      c.in_ok-pass_line.ensures.sound,
      passes_line _ _ _ _ _ _ _ inv.0 _ (filled _ _ _ _ _ _ _ _ _ inv.0 inv.4 passed.1) line.joined,
      rw c.in_ok-count.ensures.next (line_added _ _ _ _ inv.0 inv.1 _ _ c.in-Some.span _ _ inv.5 line),
      λ list come order. let off = inv.6 list come order in
          let more = left_more _ _ _ list inv.1 c.in-Some.span off.0 left in
          (more, answered_pushed inv.1 more.rest c.in-Some.span _ _ more.order off.1 c.add_between.ensures),
      c.in_ok-pass_line.ensures.failures.name ∙ inv.7,
    )
