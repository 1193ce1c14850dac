use Rattle.lnt_wire.proofs.FrameReadingLaws.{cut_wide}
use Rattle.lnt_wire.proofs.initial.read_initial.Goals as goal

pub returns-in-Err-clause-err : goal.returns-in-Err-clause-err
returns-in-Err-clause-err c = cut_wide _ _ _ _ c.in-Ok.ensures.ok c.if-first-lt4294967295.false c.in-Err.ensures.err
