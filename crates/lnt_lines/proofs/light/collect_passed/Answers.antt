use Rattle.std.proofs.Common.{ap, ◌∙◌, subst, sym, take, List}
use Rattle.std.proofs.lemmas.List.{take_all, take_more}
use Rattle.lnt_lines.specs.declared.light.Passed.{Passed}
use Rattle.lnt_lines.specs.Light.{HasCollected, passed_places}
use Rattle.lnt_lines.proofs.LightLemmas.{collected_all, collected_none}
use Rattle.lnt_lines.proofs.light.collect_passed.Goals as goal

pub loop-each-init : goal.loop-each-init
loop-each-init c = collected_none c.new-watch.ensures c.requires.places

pub loop-each-preserved : goal.loop-each-preserved
loop-each-preserved c =
    let passed = c.args.passed.now in
    let k = c.loop-each.each-index in
    subst (λ (all : List Passed). HasCollected c.args.dead c.args.unit all c.collect_one.new.watch c.args.collected.now
    c.collect_one.new.collected c.collect_one.new.places.items)
    (sym (take_more passed k (record { place = 0; low = 0; high = 0 }) c.loop-each-test.true))
    (c.in_ok-collect_one.ensures c.args.dead c.args.unit (take k passed) c.args.collected.now c.loop-each.invariant)

pub returns-clause-collects : goal.returns-clause-collects
returns-clause-collects c rows same =
    collected_all rows (subst (λ (all : List Passed). HasCollected c.args.dead c.args.unit all c.loop-each.watch c.args.collected.now
    c.loop-each.collected c.loop-each.places.items) (take_all c.loop-each.each-index c.args.passed.now c.loop-each-test.false)
    c.loop-each.invariant) c.requires.few same

pub returns-clause-places : goal.returns-clause-places
returns-clause-places c =
    c.loop-each.invariant.places_are ∙ ap passed_places (take_all c.loop-each.each-index c.args.passed.now c.loop-each-test.false)
