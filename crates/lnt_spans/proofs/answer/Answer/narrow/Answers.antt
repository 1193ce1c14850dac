use Rattle.std.proofs.Common.{rules}
use Rattle.lnt_spans.proofs.answer.Answer.narrow.Goals as goal

pub returns : goal.returns
returns c = search rules
