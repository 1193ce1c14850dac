use Rattle.std.proofs.Common.{◌≡◌, ◌≤◌, Some, length}
use Rattle.lnt_answers.specs.AddressBlocks.{AreFirstPrinted}
use Rattle.lnt_answers.proofs.addresses.Answers.put_lines.Given as goal

abbrev pub invariant-loop-next : goal.invariant-loop-next
invariant-loop-next l = record {
  same : l.self.op ≡ l.fn.self.op;
  index : l.lookups ≡ l.fn.lookups;
  shorter : length l.rest ≤ length l.fn.text;
  printed : AreFirstPrinted l.fn.lookups l.fn.self.op l.fn.text l.rest (Some l.fn.self.lines.items) (Some l.self.lines.items)
      l.fn.self.status l.self.status;
}

abbrev pub decreases-loop-next : goal.decreases-loop-next
decreases-loop-next l = length l.rest
