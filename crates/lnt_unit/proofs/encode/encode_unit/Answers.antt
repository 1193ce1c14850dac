use Rattle.lnt_unit.proofs.LargeUnits.{unit_large}
use Rattle.lnt_unit.proofs.EncodeLaws.{program_put, unit_written, unit_not_written}
use Rattle.lnt_unit.proofs.encode.encode_unit.Goals as goal

pub returns-clause-ok : goal.returns-clause-ok
returns-clause-ok c = unit_written c.args.unit.now c.header-header.result.now c.deref.result.now c.encode_header.result
    (program_put _ _ _ _ _ _ _ c.header-header.ensures c.numbers.ensures.numbers c.ops.ensures.value c.new-program.ensures.items
    c.in_ok-put_ops.ensures.ok
    c.deref.ensures.value) c.encode_header.ensures.ok

pub returns-clause-err : goal.returns-clause-err
returns-clause-err c = unit_not_written c.args.unit.now c.header-header.result.now c.deref.result.now c.encode_header.result
    (program_put _ _ _ _ _ _ _ c.header-header.ensures c.numbers.ensures.numbers c.ops.ensures.value c.new-program.ensures.items
    c.in_ok-put_ops.ensures.ok
    c.deref.ensures.value) c.encode_header.ensures.err

pub returns-clause-large : goal.returns-clause-large
returns-clause-large c = unit_large c.args.unit.now c.header-header.result.now c.deref.result.now c.encode_header.result
    (program_put _ _ _ _ _ _ _ c.header-header.ensures c.numbers.ensures.numbers c.ops.ensures.value c.new-program.ensures.items
    c.in_ok-put_ops.ensures.ok
    c.deref.ensures.value) c.encode_header.ensures.large
