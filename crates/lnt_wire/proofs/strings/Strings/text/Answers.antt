use Rattle.std.proofs.Common.{rules}
use Rattle.lnt_wire.proofs.strings.Strings.text.Goals as goal

pub returns-in-Strp : goal.returns-in-Strp
returns-in-Strp c = search rules
