use Rattle.std.proofs.Common.{rules, codes, arith, flat_map}
use Rattle.std.proofs.lemmas.Grind.{elements}
use Rattle.lnt_io.proofs.PrefixLaws.{prefix_before, prefix_in_items, so_stopped}
use Rattle.lnt_answers.proofs.FileLemmas.{appended_all, appended_more}
use Rattle.lnt_answers.specs.Lines.{unit_records}
use Rattle.lnt_answers.proofs.files.print_files.Goals as goal

pub loop-unit-preserved : goal.loop-unit-preserved
loop-unit-preserved g c =
    appended_more (unit_records c.args.index.now) (codes "unit,file,path,md5\n") c.args.index.now.units c.loop-unit.unit-index 0
    (g.W.Write.contents c.args.out.now) (g.W.Write.contents c.loop-unit.out) (g.W.Write.contents c.print_unit_files.new.out) (search rules)
    c.loop-unit.invariant (search rules)

pub returns-clause-files : goal.returns-clause-files
returns-clause-files g c =
    appended_all (unit_records c.args.index.now) (codes "unit,file,path,md5\n") c.args.index.now.units c.loop-unit.unit-index
    (g.W.Write.contents c.args.out.now) (g.W.Write.contents c.loop-unit.out) (search rules) c.loop-unit.invariant

pub returns-in_err-write_whole-clause-prefix : goal.returns-in_err-write_whole-clause-prefix
returns-in_err-write_whole-clause-prefix g c =
    so_stopped c.from_residual.result _
    (prefix_before (g.W.Write.contents c.args.out.now) (g.W.Write.contents c.write_whole.new.out) (codes "unit,file,path,md5\n")
    (flat_map (unit_records c.args.index.now) c.args.index.now.units) c.in_err-write_whole.ensures.prefix)

pub returns-in_err-print_unit_files-clause-prefix : goal.returns-in_err-print_unit_files-clause-prefix
returns-in_err-print_unit_files-clause-prefix g c =
    so_stopped c.from_residual-in_err-print_unit_files.result _
    (prefix_in_items (unit_records c.args.index.now) (codes "unit,file,path,md5\n") c.args.index.now.units c.loop-unit.unit-index 0
    (g.W.Write.contents c.args.out.now) (g.W.Write.contents c.loop-unit.out) (g.W.Write.contents c.print_unit_files.new.out) (search rules)
    c.loop-unit.invariant (search rules))

pub loop-unit-init : goal.loop-unit-init
loop-unit-init g c = grind (arith, elements)
