use Rattle.lnt_io.proofs.PrefixLaws.{prefix_none, so_stopped}
use Rattle.lnt_answers.specs.Lines.{file_record}
use Rattle.lnt_answers.proofs.files.print_file.Goals as goal

pub returns-in_err-bytes-clause-prefix : goal.returns-in_err-bytes-clause-prefix
returns-in_err-bytes-clause-prefix g c =
    so_stopped c.from_residual.result _
    (prefix_none (g.W.Write.contents c.args.out.now) (file_record c.args.index.now c.args.unit c.args.file))
