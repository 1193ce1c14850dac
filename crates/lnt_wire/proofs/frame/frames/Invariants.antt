use Rattle.std.proofs.Common.{length}
use Rattle.lnt_wire.proofs.FrameListLaws.{FramesSoFar}
use Rattle.lnt_wire.proofs.frame.frames.Given as goal

abbrev pub invariant-loop-cursor : goal.invariant-loop-cursor
invariant-loop-cursor l = FramesSoFar l.fn.order l.bytes l.frames.items l.cursor

abbrev pub decreases-loop-cursor : goal.decreases-loop-cursor
decreases-loop-cursor l = length l.cursor.rest
