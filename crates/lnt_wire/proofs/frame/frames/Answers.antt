use Rattle.std.proofs.Common.{rules, arith}
use Rattle.std.proofs.lemmas.Grind.{common_steps}
use Rattle.lnt_wire.proofs.FrameListLaws.{frame_walk}
use Rattle.lnt_wire.proofs.frame.frames.Goals as goal

pub returns-in-Err-clause-ok : goal.returns-in-Err-clause-ok
returns-in-Err-clause-ok c = search (rules, frame_walk)

pub loop-cursor-preserved : goal.loop-cursor-preserved
loop-cursor-preserved c = search (rules, frame_walk)

pub loop-cursor-smaller : goal.loop-cursor-smaller
loop-cursor-smaller c = search (rules, frame_walk)

pub returns-clause-ok : goal.returns-clause-ok
returns-clause-ok c = grind (arith, common_steps)
