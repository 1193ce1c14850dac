-- Positions: pairs of an address and an operation index, ordered by address, then by operation index.
use Rattle.std.specs.Prelude.{◌≡◌, ◌<◌, ◌≤◌, Bool, ◌&&◌, ◌||◌, nat_lt, nat_le, ◌==◌}
pub use Rattle.lnt_spans.specs.declared.position.Position.{Position}
use Rattle.lnt_spans.specs.declared.search.Side.{Side}
use Rattle.lnt_spans.specs.declared.search.Side.TheVariants.{Below, Inside, Above}

-- p comes before q: its address isn't greater, and at the same address its operation index is lower.
pub record IsBelow (p q : Position) : Type 0 where
  pub address : p.address ≤ q.address
  pub op : p.address ≡ q.address → p.op < q.op

-- p is q or comes before it.
pub record IsAtMost (p q : Position) : Type 0 where
  pub address : p.address ≤ q.address
  pub op : p.address ≡ q.address → p.op ≤ q.op

-- the same orders as boolean tests
abbrev pub is_below : Position → Position → Bool
is_below p q = nat_lt p.address q.address || (p.address == q.address && nat_lt p.op q.op)

abbrev pub is_at_most : Position → Position → Bool
is_at_most p q = nat_lt p.address q.address || (p.address == q.address && nat_le p.op q.op)

-- ---- where a position lies relative to a half-open range of positions

-- below the range, in it, or at its end or above
abbrev pub IsSide : Side → Position → Position → Position → Type 0
IsSide Below low high p = IsBelow p low
IsSide Inside low high p = IsAtMost low p × IsBelow p high
IsSide Above low high p = IsAtMost high p
