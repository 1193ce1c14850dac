use Rattle.std.proofs.lemmas.Result.{on_err_weaker, on_ok_weaker}
use Rattle.lnt_records.specs.PathSpans.{path_answer}
use Rattle.lnt_io.proofs.PrefixLaws.{so_stopped}
use Rattle.lnt_writing.proofs.PathWriteLemmas.{alike_itself, all_whole, lines_begun, table_begun_none, table_written}
use Rattle.lnt_writing.proofs.path_tables.write_instructions_by_path.Goals as goal

pub returns-clause-table : goal.returns-clause-table
returns-clause-table g c =
    on_ok_weaker c.write_lines.result
    (λ lines list come order none.
    let judged = all_whole (path_answer c.args.version (g.P.Paths.bytes_of c.args.paths.now)) list order none in
    table_written _ c.args.version _ _ list list judged.0 lines.0 (alike_itself list order) judged.1 (lines.1 list come order) lines.2)
    c.write_lines.ensures.lines

pub returns-clause-begun : goal.returns-clause-begun
returns-clause-begun g c =
    on_err_weaker c.write_lines.result
    (λ lines list come order none.
    let judged = all_whole (path_answer c.args.version (g.P.Paths.bytes_of c.args.paths.now)) list order none in
    lines_begun _ c.args.version _ _ list list judged.0 lines.0 (alike_itself list order) judged.1 (lines.1 list come order) lines.2)
    c.write_lines.ensures.begun

pub returns-in_err-memory-clause-begun : goal.returns-in_err-memory-clause-begun
returns-in_err-memory-clause-begun g c =
    so_stopped c.from_residual.result _
    (λ list come order none.
    table_begun_none (path_answer c.args.version (g.P.Paths.bytes_of c.args.paths.now)) c.args.version _ list order)
