use Rattle.std.proofs.Common.{rules}
use Rattle.lnt_wire.proofs.items.Items.new.Goals as goal

pub returns : goal.returns
returns g c = search rules
