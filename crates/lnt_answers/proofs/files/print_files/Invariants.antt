use Rattle.std.proofs.Common.{◌++◌, codes, take, flat_map}
use Rattle.std.specs.Io.KnownBytes.{Appends}
use Rattle.lnt_answers.specs.Lines.{unit_records}
use Rattle.lnt_answers.proofs.files.print_files.Given as goal

abbrev pub invariant-loop-unit : goal.invariant-loop-unit
invariant-loop-unit g l = Appends (g.W.Write.contents l.fn.out) (g.W.Write.contents l.out)
    (codes "unit,file,path,md5\n" ++ flat_map (unit_records l.index) (take l.unit-index l.index.units))
