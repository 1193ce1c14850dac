use Rattle.lnt_records.proofs.LineLemmas.{line_taken}
use Rattle.lnt_records.proofs.lines.first_span.Goals as goal

pub returns : goal.returns
returns c = line_taken _ _ _ _ _ _ _ _ c.in_ok-low.ensures c.in_ok-high.ensures c.in_ok-answer.ensures
