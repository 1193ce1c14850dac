use Rattle.std.proofs.Common.{◌≡◌, [], length}
use Rattle.lnt_io.specs.Pulling.{HasMoreThan}
use Rattle.lnt_answers.proofs.AddressLemmas.{IsTextTold}
use Rattle.lnt_answers.proofs.addresses.print_addresses.Given as goal

abbrev pub invariant-loop-count : goal.invariant-loop-count
invariant-loop-count g l = record {
  failures : g.T.Source.failures l.lines ≡ g.T.Source.failures l.fn.lines;
  name : g.T.Source.name l.lines ≡ g.T.Source.name l.fn.lines;
  more : HasMoreThan (g.T.Source.remaining l.lines) (g.T.Source.left l.lines)
      → HasMoreThan (g.T.Source.remaining l.fn.lines) (g.T.Source.left l.fn.lines);
  full : length l.block.items ≡ 65536;
  same : l.asked.answers.op ≡ l.fn.op;
  index : l.lookups ≡ l.index;
  none : l.asked.answers.lines.items ≡ [];
  printed : IsTextTold l.index l.fn.op (g.T.Source.remaining l.fn.lines) (g.T.Source.remaining l.lines) l.asked.line.items
      (g.W.Write.contents l.fn.out) (g.W.Write.contents l.out) l.asked.answers.status;
}

abbrev pub decreases-loop-count : goal.decreases-loop-count
decreases-loop-count g l = g.T.Source.left l.lines
