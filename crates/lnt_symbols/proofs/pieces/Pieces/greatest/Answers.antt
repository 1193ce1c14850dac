use Rattle.std.proofs.Common.{◌++◌, ap, flat_map, rules, sym, take_all}
use Rattle.lnt_symbols.proofs.BlockLemmas.{rising_all}
use Rattle.lnt_symbols.proofs.pieces.Pieces.greatest.Goals as goal

pub returns : goal.returns
returns c =
    let full = c.args.self.now.full.items in
    rising_all c.rises_to-2.result c.loop-block.low _ c.args.self.now.last.items _ c.loop-block.invariant
    (rw c.deref-2.ensures.value at c.rises_to-2.ensures)
    (ap (λ blocks. flat_map (λ block. block.items) blocks ++ c.args.self.now.last.items)
    (sym (take_all c.loop-block.block-index full (search rules))))
