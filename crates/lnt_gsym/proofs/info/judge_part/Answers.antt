use Rattle.std.proofs.Common.{arith}
use Rattle.lnt_gsym.specs.Reading.{part_said}
use Rattle.lnt_gsym.proofs.InfoLemmas.{part_faulty}
use Rattle.lnt_gsym.proofs.info.judge_part.Goals as goal

pub returns-in-Err-clause-fault : goal.returns-in-Err-clause-fault
returns-in-Err-clause-fault c = λ room. part_faulty room c.args.files c.args.start c.args.cursor.now c.part.new.cursor
    (part_said c.in_ok-part.part) c.in-Err.fault c.in_ok-part.ensures.read (λ z. omega (arith, c.if-part-eq0.false, z)) c.in-Err.ensures
