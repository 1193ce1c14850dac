use Rattle.std.proofs.Common.{ap, arith, ◌∙◌}
use Rattle.lnt_gsym.specs.GsymSpans.{less}
use Rattle.lnt_gsym.proofs.OpenLemmas.{is_filled, part_empty, part_filled, part_nameless, past_high, past_low}
use Rattle.lnt_gsym.proofs.spans.part_of.Goals as goal

pub returns-then-start-from-clause-part : goal.returns-then-start-from-clause-part
returns-then-start-from-clause-part c = part_empty c.args.covered c.args.start c.args.next c.args.function.size c.args.function.name
    c.args.function.last.gate c.earlier-high.result c.args.function.last.rows c.passed_over.result c.passed_over.ensures.covered
    c.passed_over.ensures.over c.passed_over.ensures.none (c.earlier-high.ensures ∙ ap (λ e. less e c.args.next) c.end_of.ensures)
    (past_high c.args.covered c.args.start c.earlier-high.result (omega (arith, c.from.ensures, c.if-start-from.true)))

pub returns-then-low-high-clause-part : goal.returns-then-low-high-clause-part
returns-then-low-high-clause-part c = part_empty c.args.covered c.args.start c.args.next c.args.function.size c.args.function.name
    c.args.function.last.gate c.earlier-high.result c.args.function.last.rows c.passed_over-then-low-high.result
    c.passed_over-then-low-high.ensures.covered c.passed_over-then-low-high.ensures.over c.passed_over-then-low-high.ensures.none
    (c.earlier-high.ensures ∙ ap (λ e. less e c.args.next) c.end_of.ensures)
    (past_low c.args.covered c.args.start c.later-low.result c.earlier-high.result c.later-low.ensures c.if-low-high.true)

pub returns-then-function-eq0-clause-part : goal.returns-then-function-eq0-clause-part
returns-then-function-eq0-clause-part c = part_nameless c.args.covered c.args.start c.args.next c.args.function.size c.args.function.name
    c.args.function.last.gate c.earlier-high.result c.args.function.last.rows c.passed_over-then-function-eq0.result
    c.passed_over-then-function-eq0.ensures.covered c.passed_over-then-function-eq0.ensures.over
    c.passed_over-then-function-eq0.ensures.none (c.earlier-high.ensures ∙ ap (λ e. less e c.args.next) c.end_of.ensures)
    (is_filled c.args.covered c.args.start c.later-low.result c.earlier-high.result c.later-low.ensures c.if-low-high.false)
    c.if-function-eq0.true

pub returns-clause-part : goal.returns-clause-part
returns-clause-part c = part_filled c.args.covered c.args.start c.args.next c.args.function.size c.args.function.name
    c.args.function.last.gate c.earlier-high.result c.later-low.result c.earlier-end.result c.is_over.result
    c.args.function.last.rows c.let_through.result (c.earlier-high.ensures ∙ ap (λ e. less e c.args.next) c.end_of.ensures)
    (is_filled c.args.covered c.args.start c.later-low.result c.earlier-high.result c.later-low.ensures c.if-low-high.false)
    (omega (arith, c.earlier-high.type_inv)) (λ z. omega (arith, c.if-function-eq0.false, z)) c.later-low.ensures c.earlier-end.ensures
    c.is_over.ensures c.let_through.ensures.left
