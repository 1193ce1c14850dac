use Rattle.std.proofs.Common.{◌≡◌, ◌≤◌, [], ◌++◌, length}
use Rattle.lnt_answers.specs.AddressBlocks.{AreFirstPrinted, HasNo}
use Rattle.lnt_answers.proofs.addresses.Asked.answer_block.Given as goal

abbrev pub invariant-loop-end : goal.invariant-loop-end
invariant-loop-end g l = record {
  same : l.self.answers.op ≡ l.fn.self.answers.op;
  index : l.lookups ≡ l.fn.lookups;
  none : l.self.answers.lines.items ≡ [];
  shorter : length l.rest ≤ length l.fn.block;
  whole : HasNo 10 l.self.line.items;
  printed : AreFirstPrinted l.fn.lookups l.fn.self.answers.op (l.fn.self.line.items ++ l.fn.block) (l.self.line.items ++ l.rest)
      (g.W.Write.contents l.fn.out) (g.W.Write.contents l.out) l.fn.self.answers.status l.self.answers.status;
}

abbrev pub decreases-loop-end : goal.decreases-loop-end
decreases-loop-end g l = length l.rest
