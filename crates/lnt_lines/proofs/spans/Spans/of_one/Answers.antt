use Rattle.lnt_lines.proofs.CursorLemmas.{one_begun}
use Rattle.lnt_lines.proofs.spans.Spans.of_one.Goals as goal

pub returns : goal.returns
returns c rows is = one_begun _ _ c.args.id.unit rows _ (c.rows_of.ensures.rows rows is)
