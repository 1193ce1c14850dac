use Rattle.std.proofs.Common.{◌++◌, ℕ, List, arith, refl}
use Rattle.std.proofs.lemmas.Grind.{elements}
use Rattle.lnt_spans.specs.Spans.{span_answer, number_spans}
use Rattle.lnt_compare.specs.Passing.{Ends}
use Rattle.lnt_records.specs.Table.{by_number, column_names}
use Rattle.lnt_records.specs.Written.{line_text, lines_text, plain_by_number}
use Rattle.lnt_spans.proofs.AnsweringLaws.{prefix_in_order}
use Rattle.lnt_spans.proofs.ToldLaws.{told}
use Rattle.lnt_compare.proofs.GatherLemmas.{gathered_lines, goes_on, started}
use Rattle.lnt_compare.proofs.StreamLaws.{rest_begins, rest_cut, whole_cut}
use Rattle.lnt_records.proofs.WriteLaws.{plain_numbers}
use Rattle.lnt_compare.proofs.differing.differ_lines.Goals as goal

pub gather_after-gathered-requires : goal.gather_after-gathered-requires
gather_after-gathered-requires g c =
    let version = c.args.version in
    let past : List ℕ = c.pass_spans.new.window in
    let ends : Ends (g.T.Source.remaining c.pass_spans.new.source) (g.T.Source.left c.pass_spans.new.source)
    (c.header_line.result.now ++ past) c.deref.result.now = rw (← c.deref.ensures.value) at c.in_ok-text.ensures.ok in
    rest_begins by_number plain_by_number plain_numbers version _ _ c.header_line.result.now past c.deref.result.now
    c.header_line.ensures ends

pub returns-clause-ok : goal.returns-clause-ok
returns-clause-ok g c list section coming order answers =
    let version = c.args.version in
    let spans = c.in_ok-passed.ensures.ok in
    let past : List ℕ = c.pass_spans.new.window in
    let ends : Ends (g.T.Source.remaining c.pass_spans.new.source) (g.T.Source.left c.pass_spans.new.source)
    (c.header_line.result.now ++ past) c.deref.result.now = rw (← c.deref.ensures.value) at c.in_ok-text.ensures.ok in
    let passed = spans.4 list coming order in
    let off = passed.0 in
    let lines = spans.3.lines in
    whole_cut by_number plain_by_number plain_numbers version _ _ _ _ c.header_line.result.now c.args.window past spans.0
    c.deref.result.now _ lines.records _ c.header_line.ensures spans.2 ends lines.text_is lines.each
    (λ bytes cut.
    c.in_ok-differing.ensures bytes section (told version spans.1) off.rest
    (gathered_lines version spans.0 c.deref.result.now bytes spans.1 _ _ c.gather_after-gathered.result spans.3
    (prefix_in_order number_spans spans.1 off.rest off.order) cut c.gather_after-gathered.ensures)
    (goes_on version _ list spans.1 section c.in_ok-passed.passed.end c.in_ok-passed.passed.answered off spans.3.end_is passed.1
    answers) off.left)

pub returns-clause-started : goal.returns-clause-started
returns-clause-started g c =
    let version = c.args.version in
    let spans = c.in_ok-passed.ensures.ok in
    let past : List ℕ = c.pass_spans.new.window in
    let ends : Ends (g.T.Source.remaining c.pass_spans.new.source) (g.T.Source.left c.pass_spans.new.source)
    (c.header_line.result.now ++ past) c.deref.result.now = rw (← c.deref.ensures.value) at c.in_ok-text.ensures.ok in
    let known = c.requires.spans in
    let list = known.0 in
    let passed = spans.4 list known.1 known.2 in
    let off = passed.0 in
    let lines = spans.3.lines in
    let bytes : List ℕ = line_text (column_names version) ++ (lines_text lines.records ++ (past ++ ends.given)) in
    let cut = rest_cut by_number plain_by_number plain_numbers version _ _ c.header_line.result.now past c.deref.result.now _ lines.records
    c.header_line.ensures ends lines.each in
    started _ _ bytes (span_answer list) c.in_ok-differing.differing
    (c.in_ok-differing.ensures bytes (span_answer list) (told version spans.1) off.rest
    (gathered_lines version spans.0 c.deref.result.now bytes spans.1 _ _ c.gather_after-gathered.result spans.3
    (prefix_in_order number_spans spans.1 off.rest off.order) cut c.gather_after-gathered.ensures)
    (goes_on version _ list spans.1 (span_answer list) c.in_ok-passed.passed.end c.in_ok-passed.passed.answered off
    spans.3.end_is passed.1 (λ p. refl)) off.left)

pub returns-in_err-text-clause-too_long : goal.returns-in_err-text-clause-too_long
returns-in_err-text-clause-too_long g c = grind (arith, elements)
