use Rattle.std.proofs.Common.{◌++◌, List, take}
use Rattle.lnt_symbols.specs.declared.piece.Piece.{Piece}
use Rattle.lnt_symbols.specs.Pieces.{RisesFrom}
use Rattle.lnt_symbols.proofs.pieces.rises_to.Given as goal

abbrev pub invariant-loop-piece : goal.invariant-loop-piece
invariant-loop-piece l = (more : List Piece) → RisesFrom l.last more → RisesFrom l.low (take l.piece-index l.pieces ++ more)
