use Rattle.std.specs.Io.KnownBytes.{Appends}
use Rattle.lnt_answers.specs.Lines.{file_record, lists_below}
use Rattle.lnt_answers.proofs.files.print_unit_files.Given as goal

abbrev pub invariant-loop-file : goal.invariant-loop-file
invariant-loop-file g l =
    Appends (g.W.Write.contents l.fn.out) (g.W.Write.contents l.out)
    (lists_below (file_record l.index l.unit) l.file)
