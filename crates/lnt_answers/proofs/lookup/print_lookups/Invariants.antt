use Rattle.std.proofs.Common.{◌≡◌, ◌++◌, [], take, flat_map}
use Rattle.std.specs.Io.KnownBytes.{Appends}
use Rattle.lnt_lines.specs.Indexed.{OfUnits}
use Rattle.lnt_answers.specs.Lines.{lookup_line}
use Rattle.lnt_answers.proofs.lookup.print_lookups.Given as goal

abbrev pub invariant-loop-position : goal.invariant-loop-position
invariant-loop-position g l = record {
  index : l.lookups ≡ l.index;
  none : l.line.items ≡ [];
  lines : OfUnits l.index (λ selection. Appends (g.W.Write.contents l.fn.out) (g.W.Write.contents l.out)
      ([] ++ flat_map (lookup_line l.index selection) (take l.position-index l.positions)));
}
