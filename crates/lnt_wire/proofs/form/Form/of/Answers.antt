use Rattle.std.proofs.Common.{rules}
use Rattle.lnt_wire.proofs.form.Form.of.Goals as goal

pub returns-in-10 : goal.returns-in-10
returns-in-10 c = search rules
