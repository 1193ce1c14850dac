use Rattle.std.proofs.Common.{rules}
use Rattle.lnt_header.proofs.op.OpView.coded.Goals as goal

pub returns-in-SetFile : goal.returns-in-SetFile
returns-in-SetFile c = search rules
