use Rattle.std.proofs.Common.{◌≡◌, ◌+◌, length}
use Rattle.lnt_sequences.specs.Sequences.{Selection}
use Rattle.lnt_lines.specs.Indexed.{IsIndexOf}
use Rattle.lnt_table.specs.Asked.{AreSequencesFrom, IsWholeSource}
use Rattle.lnt_table.proofs.copies.Copies.begin.Given as goal

abbrev pub invariant-loop-place : goal.invariant-loop-place
invariant-loop-place l = record {
  count : l.self.group.first + length l.sequences.items ≡ l.place;
  each : (selection : Selection) → IsIndexOf selection l.self.index.now
      → AreSequencesFrom IsWholeSource selection l.self.group.extents.now l.self.group.first l.sequences.items;
}
