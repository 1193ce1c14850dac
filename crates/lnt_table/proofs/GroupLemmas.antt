-- Which extents may hold positions, as positions rise.
use Rattle.std.proofs.Common.{ℕ, ◌≤◌, ◌<◌, List, length, get_or, subst, arith}
use Rattle.std.proofs.lemmas.List.{get_or_default}
use Rattle.lnt_spans.specs.Positions.{IsAtMost}
use Rattle.lnt_sequences.specs.declared.extent.Extent.{Extent}
use Rattle.lnt_table.specs.Groups.{BeginInTurn}

pub begins_from : (extents : List Extent) (begun : ℕ) (e : Extent) → BeginInTurn extents → (k : ℕ) (d : Extent) → begun ≤ k
    → k < length extents → IsAtMost (get_or extents begun e).low (get_or extents k d).low
begins_from extents begun e turn k d le lt =
    subst (λ (x : Extent). IsAtMost x.low (get_or extents k d).low) (get_or_default extents begun d e (omega (arith, le, lt)))
    (turn begun k d le lt)
