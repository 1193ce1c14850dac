use Rattle.std.proofs.Common.{◌≡◌, ◌++◌, take, flat_map}
use Rattle.lnt_dump.specs.Operations.{operand_text}
use Rattle.lnt_dump.proofs.operations.put_listed.Given as goal

abbrev pub invariant-loop-number : goal.invariant-loop-number
invariant-loop-number l = l.text.items ≡ l.fn.text.items ++ flat_map operand_text (take l.number-index l.fn.numbers)
