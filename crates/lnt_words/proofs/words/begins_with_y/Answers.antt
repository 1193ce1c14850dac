use Rattle.std.proofs.Common.{rules}
use Rattle.lnt_words.proofs.WordLemmas.{no_first, other_first}
use Rattle.lnt_words.proofs.words.begins_with_y.Goals as goal

pub returns-then-is_empty : goal.returns-then-is_empty
returns-then-is_empty c = λ is. no_first c.args.bytes.now (search rules)

pub returns : goal.returns
returns c = λ is. other_first c.args.bytes.now is
