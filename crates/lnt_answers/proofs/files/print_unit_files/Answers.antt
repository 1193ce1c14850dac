use Rattle.std.proofs.Common.{arith, rules}
use Rattle.lnt_io.proofs.PrefixLaws.{so_stopped}
use Rattle.lnt_lines.specs.Indexed.{file_count_in}
use Rattle.lnt_answers.proofs.FileLemmas.{records_stopped, records_none, records_more}
use Rattle.lnt_answers.proofs.files.print_unit_files.Goals as goal

pub returns-in_err-print_file-clause-prefix : goal.returns-in_err-print_file-clause-prefix
returns-in_err-print_file-clause-prefix g c =
    so_stopped c.from_residual.result _
    (records_stopped c.args.index.now c.args.unit c.loop-file.file (file_count_in c.args.index.now c.args.unit)
    (g.W.Write.contents c.args.out.now) (g.W.Write.contents c.loop-file.out) (g.W.Write.contents c.print_file.new.out) (omega arith)
    c.loop-file.invariant c.in_err-print_file.ensures.prefix)

pub loop-file-preserved : goal.loop-file-preserved
loop-file-preserved g c = search (rules, records_none, records_more)
