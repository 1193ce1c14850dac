use Rattle.lnt_spans.specs.declared.answer.Answer.{Answer}
use Rattle.lnt_records.specs.PathSpans.{PathAnswer, path_answer}
use Rattle.lnt_writing.proofs.PathWriteLemmas.{keeps_same, lines_begun, operation_found, table_begun_none, table_written}
use Rattle.lnt_io.proofs.PrefixLaws.{so_stopped}
use Rattle.lnt_writing.proofs.path_tables.write_by_path.Goals as goal

pub returns-in-Some-clause-table : goal.returns-in-Some-clause-table
returns-in-Some-clause-table g c list other come come' o o' same =
    let tell : Answer → PathAnswer = path_answer c.args.version (g.P.Paths.bytes_of c.args.paths.now) in
    let found = rw c.in-Some.is at c.in_ok-position.ensures.found in (
      keeps_same (g.W.Write.contents c.args.out.now),
      operation_found tell other list found.0 c.in-Some.position (record { first = o; second = o'; same = same }) found.1.0
          (found.1.1 other come o),
    )

pub returns-clause-table : goal.returns-clause-table
returns-clause-table g c list other come come' o o' same =
    let tell : Answer → PathAnswer = path_answer c.args.version (g.P.Paths.bytes_of c.args.paths.now) in
    let judged = rw c.in_default.is at c.in_ok-position.ensures.found in
    let lines = c.in_ok-write_lines.ensures.lines in
    table_written tell c.args.version _ _ other list judged.0 lines.0 (record { first = o; second = o'; same = same })
    (record { joined = judged.1.1 other come o; whole = judged.1.0 }) (lines.1 list come' o') lines.2

pub returns-in_err-memory-clause-begun : goal.returns-in_err-memory-clause-begun
returns-in_err-memory-clause-begun g c =
    so_stopped c.from_residual.result _
    (λ list other come come' o o' same.
    table_begun_none (path_answer c.args.version (g.P.Paths.bytes_of c.args.paths.now)) c.args.version _ list o')

pub returns-in_err-position-clause-begun : goal.returns-in_err-position-clause-begun
returns-in_err-position-clause-begun g c =
    so_stopped c.from_residual-in_err-position.result _
    (λ list other come come' o o' same.
    table_begun_none (path_answer c.args.version (g.P.Paths.bytes_of c.args.paths.now)) c.args.version _ list o')

pub returns-in_err-write_lines-clause-begun : goal.returns-in_err-write_lines-clause-begun
returns-in_err-write_lines-clause-begun g c =
    let tell : Answer → PathAnswer = path_answer c.args.version (g.P.Paths.bytes_of c.args.paths.now) in
    let judged = rw c.in_default.is at c.in_ok-position.ensures.found in
    let lines = c.in_err-write_lines.ensures.begun in
    so_stopped c.from_residual-in_err-write_lines.result _
    (λ list other come come' o o' same.
    lines_begun tell c.args.version _ _ other list judged.0 lines.0 (record { first = o; second = o'; same = same })
    (record { joined = judged.1.1 other come o; whole = judged.1.0 }) (lines.1 list come' o') lines.2)
