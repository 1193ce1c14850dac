use Rattle.std.proofs.Common.{refl, arith}
use Rattle.lnt_wire.specs.FormBytes.{BlockBytes}
use Rattle.lnt_wire.specs.BlockLengths.{LengthBytes, IsBlockValueFault}
use Rattle.lnt_wire.specs.Reading.{RefusesField, Fault}
use Rattle.lnt_wire.proofs.RefusedForms.{passed_on}
use Rattle.lnt_wire.proofs.ValueLemmas.{refuses_no_length, refuses_cut_block, reads_block}
use Rattle.lnt_wire.proofs.cursor.Cursor.block.Goals as goal

pub returns-then-size-bytes-clause-err : goal.returns-then-size-bytes-clause-err
returns-then-size-bytes-clause-err c =
    refuses_cut_block c.args.encoding c.args.self.now c.fork-ahead.result c.length.new.self c.in_ok-size.size c.rest-bytes.result.now _
    c.fork-ahead.ensures c.in_ok-size.ensures.ok c.rest-bytes.ensures (omega (arith, c.if-size-bytes.true)) c.place-place.ensures.value refl

pub returns-in_err-size-clause-err : goal.returns-in_err-size-clause-err
returns-in_err-size-clause-err c =
    passed_on c.from_residual.result c.in_err-size.field-0.0
    (λ (fault : Fault). RefusesField (IsBlockValueFault c.args.self.now.order c.args.encoding)
    (BlockBytes (LengthBytes c.args.self.now.order c.args.encoding)) c.args.self.now fault)
    c.from_residual.ensures.1
    (refuses_no_length c.args.encoding c.args.self.now c.fork-ahead.result c.in_err-size.field-0.0 c.fork-ahead.ensures
    c.in_err-size.ensures.err)

pub returns-clause-ok : goal.returns-clause-ok
returns-clause-ok c =
    reads_block c.args.encoding c.args.self.now c.fork-ahead.result c.length.new.self c.skip.new.self c.in_ok-size.size
    c.rest-bytes.result.now c.split_at.result.0.now c.fork-ahead.ensures c.in_ok-size.ensures.ok c.rest-bytes.ensures
    (omega (arith, c.if-size-bytes.false)) c.split_at.ensures.front c.skip.ensures
