use Rattle.std.proofs.Common.{subst, sym}
use Rattle.lnt_lines.specs.Indexed.{IsIndexOf}
use Rattle.lnt_lines.proofs.CursorLemmas.{gives_sequence}
use Rattle.lnt_lines.proofs.index.Index.spans_of.Goals as goal

pub returns : goal.returns
returns c selection is placed live same =
    gives_sequence selection _ placed c.args.id c.of_one.result c.sequence_spans.ensures c.spans_in_turn.ensures
    (subst (IsIndexOf selection) (sym c.self.view_is) is) live same
    (rw (c.deref.ensures.value, c.deref-2.ensures.value) at c.of_one.ensures)
