use Rattle.std.proofs.Common.{◌⊎◌, OnErr, subst}
use Rattle.std.specs.Io.KnownBytes.{Keeps}
use Rattle.lnt_symbols.specs.SymbolTables.{BeginsPrinted}
use Rattle.lnt_symbols.proofs.ReadingLemmas.{answers_of_records, answers_are_printed}
use Rattle.lnt_symbols.proofs.breakpad.print.print_read.Goals as goal

pub returns-in-Ok-clause-printed : goal.returns-in-Ok-clause-printed
returns-in-Ok-clause-printed g c bytes taken stop =
    let read = rw c.in-Ok.is at taken in
    answers_are_printed c.args.base bytes read.0 (g.W.Write.contents c.args.out.now) (g.W.Write.contents c.print_reading.new.out)
    c.print_reading.result read.1 c.print_reading.ensures.done (c.print_reading.ensures.table read.0 read.2)

pub returns-in-Ok-clause-begun : goal.returns-in-Ok-clause-begun
returns-in-Ok-clause-begun g c bytes taken stop =
    let read = rw c.in-Ok.is at taken in
    subst (λ answers. OnErr c.print_reading.result (Keeps (g.W.Write.contents c.args.out.now) (g.W.Write.contents c.print_reading.new.out)
    ⊎ BeginsPrinted answers (g.W.Write.contents c.args.out.now) (g.W.Write.contents c.print_reading.new.out)))
    (answers_of_records c.args.base bytes read.0 read.1) (c.print_reading.ensures.begun read.0 read.2)
