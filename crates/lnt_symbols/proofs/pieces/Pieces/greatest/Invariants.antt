use Rattle.std.proofs.Common.{◌++◌, List, flat_map, take}
use Rattle.lnt_symbols.specs.declared.piece.Piece.{Piece}
use Rattle.lnt_symbols.specs.Pieces.{RisesFrom}
use Rattle.lnt_symbols.proofs.pieces.Pieces.greatest.Given as goal

abbrev pub invariant-loop-block : goal.invariant-loop-block
invariant-loop-block l = (more : List Piece) → RisesFrom l.low more
    → RisesFrom 0 (flat_map (λ block. block.items) (take l.block-index l.self.full.items) ++ more)
