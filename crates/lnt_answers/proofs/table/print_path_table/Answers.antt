use Rattle.std.proofs.Common.{rules}
use Rattle.lnt_io.proofs.PrefixLaws.{prefix_since, so_stopped}
use Rattle.lnt_answers.specs.PathTables.{operation_line}
use Rattle.lnt_answers.proofs.PathTableLemmas.{line_begun, table_begun}
use Rattle.lnt_answers.proofs.table.print_path_table.Goals as goal
use Rattle.lnt_table.specs.Headline.{told_path}

pub returns-in_err-print_line-in-OperationIndex-clause-begun : goal.returns-in_err-print_line-in-OperationIndex-clause-begun
returns-in_err-print_line-in-OperationIndex-clause-begun g c =
    so_stopped c.from_residual-in_err-print_line-in-OperationIndex.result _
    (λ selection is.
    let position = c.in-OperationIndex.position in
    let none = rw c.in-OperationIndex.is at c.in_ok-write_paths.ensures.table selection is in
    line_begun c.args.version (told_path c.args.version c.args.index.now selection) position (g.W.Write.contents c.args.out.now)
    (g.W.Write.contents c.print_line.new.out) none.1
    (prefix_since (g.W.Write.contents c.args.out.now) (g.W.Write.contents c.write_paths.new.out)
    (g.W.Write.contents c.print_line.new.out) (operation_line position) none.0
    c.in_err-print_line-in-OperationIndex.ensures.prefix))

pub returns-in_err-write_paths-clause-begun : goal.returns-in_err-write_paths-clause-begun
returns-in_err-write_paths-clause-begun g c =
    so_stopped c.from_residual.result _
    (λ selection is. table_begun c.args.version (told_path c.args.version c.args.index.now selection)
    (g.W.Write.contents c.args.out.now) (g.W.Write.contents c.write_paths.new.out) (c.in_err-write_paths.ensures.begun selection is))

pub returns-in_ok-print_line-in-OperationIndex-clause-table : goal.returns-in_ok-print_line-in-OperationIndex-clause-table
returns-in_ok-print_line-in-OperationIndex-clause-table g c = search rules
