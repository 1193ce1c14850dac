use Rattle.std.proofs.Common.{rules}
use Rattle.lnt_unit.proofs.buffer.UnitBuffer.into_bytes.Goals as goal

pub returns : goal.returns
returns c = search rules
