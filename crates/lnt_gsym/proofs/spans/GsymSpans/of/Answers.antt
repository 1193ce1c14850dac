use Rattle.std.proofs.Common.{refl}
use Rattle.lnt_gsym.proofs.FileLemmas.{spans_answer_as_gsym}
use Rattle.lnt_gsym.proofs.spans.GsymSpans.of.Goals as goal

pub returns : goal.returns
returns c = λ gsym has. spans_answer_as_gsym _ gsym has refl refl c.no_part.ensures
