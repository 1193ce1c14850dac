use Rattle.std.proofs.Common.{rules, arith}
use Rattle.std.proofs.lemmas.Grind.{common_steps}
use Rattle.lnt_ops.proofs.UnknownReaders.{opcode_there, gives_unknown, refuses_unknown}
use Rattle.lnt_ops.proofs.unknown.read_unknown.Goals as goal

pub returns-clause-ok : goal.returns-clause-ok
returns-clause-ok c = search (rules, opcode_there, gives_unknown, refuses_unknown)

pub returns-in_err-pass_operands-clause-err : goal.returns-in_err-pass_operands-clause-err
returns-in_err-pass_operands-clause-err c = search (rules, opcode_there, gives_unknown, refuses_unknown)

pub overflow_sub-bytes : goal.overflow_sub-bytes
overflow_sub-bytes c = grind (arith, common_steps)
