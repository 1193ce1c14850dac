use Rattle.std.proofs.Common.{rules}
use Rattle.lnt_wire.proofs.form.Form.code.Goals as goal

pub returns-in-Block1 : goal.returns-in-Block1
returns-in-Block1 c = search rules
