use Rattle.std.proofs.Common.{rules}
use Rattle.lnt_unit.proofs.buffer.UnitBuffer.bytes.Goals as goal

pub returns-clause-bytes : goal.returns-clause-bytes
returns-clause-bytes c = search rules
