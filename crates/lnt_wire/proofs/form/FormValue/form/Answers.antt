use Rattle.std.proofs.Common.{rules}
use Rattle.lnt_wire.proofs.form.FormValue.form.Goals as goal

pub returns-in-Text : goal.returns-in-Text
returns-in-Text c = search rules
