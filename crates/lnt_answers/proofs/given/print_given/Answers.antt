use Rattle.std.proofs.Common.{◌∙◌, subst, sym}
use Rattle.lnt_io.proofs.PrefixLaws.{so_stopped}
use Rattle.lnt_answers.specs.Stepping.{differences_of}
use Rattle.lnt_answers.proofs.GivenLemmas.{all_printed, begun_between, begun_within, is_end_told, printed_more, printed_none}
use Rattle.lnt_answers.proofs.given.print_given.Goals as goal

pub loop-lines-init : goal.loop-lines-init
loop-lines-init g c = (
  c.new-lines.ensures.scope,
  c.requires,
  λ case h. printed_none h c.new-lines.ensures.right,
)

pub next_ended-requires : goal.next_ended-requires
next_ended-requires g c = c.loop-lines.invariant.1

pub returns-in_err-ended-clause-begun : goal.returns-in_err-ended-clause-begun
returns-in_err-ended-clause-begun g c =
    so_stopped c.from_residual.result _
    (λ case h. begun_between c.loop-lines.given (c.loop-lines.invariant.2 case h))

pub loop-lines-smaller : goal.loop-lines-smaller
loop-lines-smaller g c = rw c.in-Some.is at c.in_ok-ended.ensures.fewer

pub loop-lines-preserved : goal.loop-lines-preserved
loop-lines-preserved g c = (
  c.print-printed.ensures.scope ∙ c.loop-lines.invariant.0,
  rw c.in-Some.is at c.in_ok-ended.ensures.going,
  λ case h.
      let printed = c.loop-lines.invariant.2 case h in
      let told = rw c.in-Some.is at c.in_ok-ended.ensures.given case (differences_of printed.told) printed.so in
      printed_more c.in-Some.ended.difference c.told_end-end.result printed told.0
      (is_end_told (g.G.StretchSource.ends_at case c.in-Some.ended.difference) c.args.ends c.in-Some.ended.end c.told_end-end.result
      c.told_end-end.ensures told.1)
      (rw c.loop-lines.invariant.0 at c.in_ok-printed.ensures.line) (rw c.loop-lines.invariant.0 at c.in_ok-printed.ensures.right),
)

pub returns-in_err-printed-clause-begun : goal.returns-in_err-printed-clause-begun
returns-in_err-printed-clause-begun g c =
    so_stopped c.from_residual-in_err-printed.result _
    (λ case h.
    let printed = c.loop-lines.invariant.2 case h in
    let told = rw c.in-Some.is at c.in_ok-ended.ensures.given case (differences_of printed.told) printed.so in
    begun_within c.next_ended.new.self c.in-Some.ended.difference c.told_end-end.result printed told.0
    (is_end_told (g.G.StretchSource.ends_at case c.in-Some.ended.difference) c.args.ends c.in-Some.ended.end c.told_end-end.result
    c.told_end-end.ensures told.1)
    (rw c.loop-lines.invariant.0 at c.in_err-printed.ensures.prefix))

pub returns-clause-lines : goal.returns-clause-lines
returns-clause-lines g c case h =
    let printed = c.loop-lines.invariant.2 case h in
    all_printed c.covered.result printed
    (subst (g.G.StretchSource.are_all case (differences_of printed.told)) (sym c.covered.ensures)
    (rw c.in_default.is at c.in_ok-ended.ensures.given case (differences_of printed.told) printed.so)) c.if_right.ensures
