use Rattle.std.proofs.Common.{◌≡◌, flat_map, take}
use Rattle.lnt_symbols.proofs.pieces.Pieces.joined.Given as goal

abbrev pub invariant-loop-block : goal.invariant-loop-block
invariant-loop-block l = l.all.items ≡ flat_map (λ block. block.items) (take l.block-index l.self.full.items)
