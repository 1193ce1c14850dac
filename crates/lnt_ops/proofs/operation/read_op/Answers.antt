use Rattle.std.proofs.Common.{◌∙◌, arith}
use Rattle.std.proofs.lemmas.Result.{err_from_is_err_and}
use Rattle.lnt_ops.proofs.OpReaders.{first_after, gives_after, first_opcode, refuses_opcode, refuses_after}
use Rattle.lnt_ops.proofs.operation.read_op.Goals as goal

pub read_operand-requires-clause-standard : goal.read_operand-requires-clause-standard
read_operand-requires-clause-standard c = omega (arith, c.opcode_base.ensures.value)

pub read_operand-requires-clause-order : goal.read_operand-requires-clause-order
read_operand-requires-clause-order c = c.in_ok-opcode.ensures.ok.order ∙ c.new-ahead.ensures.order ∙ c.order.ensures ∙ c.requires

pub returns-in_err-opcode-clause-err : goal.returns-in_err-opcode-clause-err
returns-in_err-opcode-clause-err c =
    let p = err_from_is_err_and c.from_residual.result c.from_residual.ensures.1 in
    rw (p.1, p.2) (refuses_opcode c.args.numbers.now c.args.cursor.now c.new-ahead.result c.in_err-opcode.field-0.0
    (c.new-ahead.ensures.place ∙ c.place.ensures.value) (c.new-ahead.ensures.rest ∙ c.rest.ensures) c.in_err-opcode.ensures.err)

pub returns-in_err-opcode-clause-first : goal.returns-in_err-opcode-clause-first
returns-in_err-opcode-clause-first c =
    let p = err_from_is_err_and c.from_residual.result c.from_residual.ensures.1 in
    rw (p.1, p.2) (first_opcode c.args.numbers.now c.args.cursor.now c.new-ahead.result c.in_err-opcode.field-0.0
    (c.new-ahead.ensures.place ∙ c.place.ensures.value) (c.new-ahead.ensures.rest ∙ c.rest.ensures) c.in_err-opcode.ensures.err)

pub returns-in_err-view-clause-err : goal.returns-in_err-view-clause-err
returns-in_err-view-clause-err c =
    let p = err_from_is_err_and c.from_residual-in_err-view.result c.from_residual-in_err-view.ensures.1 in
    rw (p.1, p.2) (refuses_after c.args.numbers.now c.in_ok-opcode.opcode c.args.cursor.now c.new-ahead.result c.u8.new.self
    c.in_err-view.field-0.0 (c.new-ahead.ensures.place ∙ c.place.ensures.value) (c.new-ahead.ensures.rest ∙ c.rest.ensures)
    c.in_ok-opcode.ensures.ok (omega (arith, c.if-opcode-opcode_base.false, c.opcode_base.ensures.value)) c.in_err-view.ensures.err)

pub returns-in_err-view-clause-first : goal.returns-in_err-view-clause-first
returns-in_err-view-clause-first c =
    let p = err_from_is_err_and c.from_residual-in_err-view.result c.from_residual-in_err-view.ensures.1 in
    rw (p.1, p.2) (first_after c.args.numbers.now c.in_ok-opcode.opcode c.args.cursor.now c.new-ahead.result c.u8.new.self
    c.in_err-view.field-0.0 (c.new-ahead.ensures.place ∙ c.place.ensures.value) (c.new-ahead.ensures.rest ∙ c.rest.ensures)
    c.in_ok-opcode.ensures.ok (omega (arith, c.if-opcode-opcode_base.false, c.opcode_base.ensures.value)) c.in_err-view.ensures.err)

pub returns-clause-ok : goal.returns-clause-ok
returns-clause-ok c =
    gives_after c.args.numbers.now c.in_ok-opcode.opcode c.in_ok-view.view c.args.cursor.now c.new-ahead.result c.u8.new.self
    c.read_operand.new.cursor (c.new-ahead.ensures.place ∙ c.place.ensures.value) (c.new-ahead.ensures.rest ∙ c.rest.ensures)
    (c.new-ahead.ensures.order ∙ c.order.ensures) c.in_ok-opcode.ensures.ok c.in_ok-view.ensures.ok
