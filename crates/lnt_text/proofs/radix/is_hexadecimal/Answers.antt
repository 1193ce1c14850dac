use Rattle.std.proofs.Common.{rules}
use Rattle.lnt_text.proofs.radix.is_hexadecimal.Goals as goal

pub returns : goal.returns
returns c = search rules
