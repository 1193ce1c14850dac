use Rattle.std.proofs.Common.{[], refl}
use Rattle.std.proofs.lemmas.Result.{IfOk-weaker}
use Rattle.lnt_spans.specs.Spans.{span_answer}
use Rattle.lnt_compare.proofs.GatherLemmas.{all_to_come, gathered_all, started}
use Rattle.lnt_compare.proofs.differing.differ_records.Goals as goal

pub returns-clause-differing : goal.returns-clause-differing
returns-clause-differing g c =
    let version = c.in-Some.version in
    IfOk-weaker c.differ_after.result _ _
    (λ differing h list section coming order answers.
    h c.args.text.now section [] list
    (gathered_all version c.args.text.now c.gather_after-gathered.result c.gather_after-gathered.ensures)
    (all_to_come version list section order answers) (c.all.ensures list coming))
    c.differ_after.ensures

pub returns-clause-started : goal.returns-clause-started
returns-clause-started g c =
    let version = c.in-Some.version in
    let known = c.requires in
    IfOk-weaker c.differ_after.result _ _
    (λ differing h.
    started _ _ c.args.text.now (span_answer known.0) differing
    (h c.args.text.now (span_answer known.0) [] known.0
    (gathered_all version c.args.text.now c.gather_after-gathered.result c.gather_after-gathered.ensures)
    (all_to_come version known.0 (span_answer known.0) known.2 (λ p. refl)) (c.all.ensures known.0 known.1)))
    c.differ_after.ensures

pub gather_after-gathered-requires : goal.gather_after-gathered-requires
gather_after-gathered-requires g c = rw c.in-Some.is at c.in_ok-version.ensures

pub returns-in_default-clause-differing : goal.returns-in_default-clause-differing
returns-in_default-clause-differing g c list section coming order answers = rw c.in_default.is at c.in_ok-version.ensures
