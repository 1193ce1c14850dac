use Rattle.std.proofs.Common.{arith, ◌++◌}
use Rattle.std.proofs.lemmas.Option.{IfSome_then}
use Rattle.lnt_sequences.specs.Sequences.{line_answer}
use Rattle.lnt_compare.proofs.StreamLaws.{all_taken, line_taken, no_header_fault}
use Rattle.lnt_compare.proofs.WindowLaws.{longer_from_start}
use Rattle.lnt_records.specs.Table.{by_number, column_names}
use Rattle.lnt_records.specs.Written.{line_text, plain_by_number}
use Rattle.lnt_records.proofs.LineLaws.{header_begins}
use Rattle.lnt_records.proofs.WriteLaws.{plain_numbers}
use Rattle.lnt_table.proofs.any_differing.differences_any.Goals as goal

pub differ_lines-requires-clause-spans : goal.differ_lines-requires-clause-spans
differ_lines-requires-clause-spans g c =
    let known = c.spans.ensures.is_index in
    let all = c.spans.ensures.gives known.selection known.index_is in
    (all.spans, all.to_come, all.in_order)

pub returns-in-Some-clause-ok : goal.returns-in-Some-clause-ok
returns-in-Some-clause-ok g c selection is =
    let all = c.spans.ensures.gives selection is in
    let version = c.in-Some.version in
    let window = c.pass_header.new.window in
    line_taken _ _ _ _ c.in_ok-window.window (line_text (column_names version)) window _ c.in_ok-window.ensures.taken c.in-Some.ensures
    (IfSome_then (g.T.Source.remaining c.of.new.source)
    (c.in_ok-differing.ensures.ok all.spans (line_answer selection) all.to_come all.in_order all.answers)
    (λ rest told. (
      told,
      no_header_fault _ _ (line_text (column_names version) ++ (window ++ rest)) version (line_answer selection)
          c.in_ok-differing.differing (header_begins by_number plain_by_number plain_numbers version (window ++ rest)) told,
    )))

pub returns-clause-ok : goal.returns-clause-ok
returns-clause-ok g c selection index =
    let ends = rw c.in_default.ensures at c.in_ok-text.ensures.ok in
    let found = rw c.deref.ensures.value at c.in_ok-any.ensures.any in
    all_taken _ _ _ _ c.in_ok-window.window c.in_ok-text.text.items _ c.in_ok-window.ensures.taken ends (found selection index)

pub returns-in_err-text-clause-too_long : goal.returns-in_err-text-clause-too_long
returns-in_err-text-clause-too_long g c e =
    grind (
      arith,
      c.in_err-text.ensures.too_long,
      c.from_residual-in_err-text.ensures,
      longer_from_start _ _ _ _ _ _ _ c.in_ok-window.ensures.taken,
      e,
    )
