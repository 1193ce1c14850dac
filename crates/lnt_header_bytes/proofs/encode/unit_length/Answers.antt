use Rattle.std.proofs.Common.{rules}
use Rattle.lnt_header_bytes.proofs.encode.unit_length.Goals as goal

pub returns-else-length-limit-clause-err : goal.returns-else-length-limit-clause-err
returns-else-length-limit-clause-err c = search rules
