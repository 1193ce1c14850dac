use Rattle.std.proofs.Common.{◌≡◌, ◌+◌, length}
use Rattle.lnt_symbols.specs.Pieces.{still_left}
use Rattle.lnt_symbols.proofs.pieces.PieceSpansSpanSource.next_span.Given as goal

abbrev pub invariant-loop-self : goal.invariant-loop-self
invariant-loop-self l = still_left l.self ≡ still_left l.fn.self

abbrev pub decreases-loop-self : goal.decreases-loop-self
decreases-loop-self l = length l.self.full.now + length l.self.last.now
