use Rattle.lnt_notes.proofs.NoteLemmas.{line_written}
use Rattle.lnt_notes.proofs.note.print_line_of.Goals as goal

pub returns : goal.returns
returns g c =
    line_written c.print_text.result (g.N.Write.contents c.args.notes.now) (g.N.Write.contents c.print_text.new.notes)
    c.first_line.result.now c.first_line.ensures c.print_text.ensures.line c.print_text.ensures.prefix
