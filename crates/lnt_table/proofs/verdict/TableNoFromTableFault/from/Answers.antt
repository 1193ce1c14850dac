use Rattle.std.proofs.Common.{rules}
use Rattle.lnt_table.proofs.verdict.TableNoFromTableFault.from.Goals as goal

pub returns-in-Order : goal.returns-in-Order
returns-in-Order c = search rules
