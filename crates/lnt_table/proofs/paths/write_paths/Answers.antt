use Rattle.std.proofs.Common.{◌∙◌, sym}
use Rattle.std.proofs.lemmas.Result.{IfOk-weaker, on_err_weaker}
use Rattle.lnt_writing.specs.declared.path_tables.PathTable.TheVariants.{Written}
use Rattle.lnt_records.specs.PathSpans.{spans_by_path}
use Rattle.lnt_table.specs.Headline.{indexed_path, told_path}
use Rattle.lnt_table.proofs.PathLemmas.{becomes_of_same, paths_begun}
use Rattle.lnt_table.proofs.UnitPathLemmas.{told_by_units}
use Rattle.lnt_io.proofs.PrefixLaws.{so_stopped}
use Rattle.lnt_table.proofs.paths.write_paths.Goals as goal

pub returns-clause-table : goal.returns-clause-table
returns-clause-table g c = IfOk-weaker c.write_by_path.result _ _
    (λ table become selection is.
    let judged = c.spans-2.ensures.gives selection is in
    let all = c.spans-3.ensures.gives selection is in
    becomes_of_same c.args.version (spans_by_path c.args.version (indexed_path c.args.index.now) all.spans)
    (told_path c.args.version c.args.index.now selection)
    (g.W.Write.contents c.args.out.now) (g.W.Write.contents c.write_by_path.new.out) table
    (told_by_units c.args.version c.args.index.now selection all.spans is all.answers)
    (become all.spans judged.spans judged.to_come all.to_come judged.in_order all.in_order (λ p. judged.answers p ∙ sym (all.answers p))))
    c.write_by_path.ensures.table

pub returns-then-has_single_operations-clause-table : goal.returns-then-has_single_operations-clause-table
returns-then-has_single_operations-clause-table g c selection is =
    let all = c.spans.ensures.gives selection is in
    let single = c.has_single_operations.ensures.spans c.if-has_single_operations.true selection is all.spans all.spans_are in
    becomes_of_same c.args.version (spans_by_path c.args.version (indexed_path c.args.index.now) all.spans)
    (told_path c.args.version c.args.index.now selection)
    (g.W.Write.contents c.args.out.now) (g.W.Write.contents c.write_instructions_by_path.new.out) Written
    (told_by_units c.args.version c.args.index.now selection all.spans is all.answers)
    (c.in_ok-write_instructions_by_path.ensures.table all.spans all.to_come all.in_order single)

pub returns-clause-begun : goal.returns-clause-begun
returns-clause-begun g c =
    on_err_weaker c.write_by_path.result
    (λ begun selection is.
    let judged = c.spans-2.ensures.gives selection is in
    let all = c.spans-3.ensures.gives selection is in
    paths_begun c.args.version (indexed_path c.args.index.now) all.spans (told_path c.args.version c.args.index.now selection)
    (g.W.Write.contents c.args.out.now) (g.W.Write.contents c.write_by_path.new.out) all.in_order all.fits
    (told_by_units c.args.version c.args.index.now selection all.spans is all.answers)
    (begun all.spans judged.spans judged.to_come all.to_come judged.in_order all.in_order (λ p. judged.answers p ∙ sym (all.answers p))))
    c.write_by_path.ensures.begun

pub returns-in_err-write_instructions_by_path-clause-begun : goal.returns-in_err-write_instructions_by_path-clause-begun
returns-in_err-write_instructions_by_path-clause-begun g c =
    so_stopped c.from_residual.result _
    (λ selection is.
    let all = c.spans.ensures.gives selection is in
    let single = c.has_single_operations.ensures.spans c.if-has_single_operations.true selection is all.spans all.spans_are in
    paths_begun c.args.version (indexed_path c.args.index.now) all.spans (told_path c.args.version c.args.index.now selection)
    (g.W.Write.contents c.args.out.now) (g.W.Write.contents c.write_instructions_by_path.new.out) all.in_order all.fits
    (told_by_units c.args.version c.args.index.now selection all.spans is all.answers)
    (c.in_err-write_instructions_by_path.ensures.begun all.spans all.to_come all.in_order single))
