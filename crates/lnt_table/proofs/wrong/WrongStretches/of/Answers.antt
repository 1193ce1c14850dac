use Rattle.std.proofs.Common.{[]}
use Rattle.lnt_spans.proofs.PositionLaws.{at_most_itself, not_both, origin_first}
use Rattle.lnt_table.proofs.wrong.WrongStretches.of.Goals as goal

pub returns-clause-begun : goal.returns-clause-begun
returns-clause-begun g c selection f f' is live same given = record {
  is_index = rw c.of.ensures.index is;
  live = rw c.of.ensures.index live;
  same = same;
  given = [];
  so = given;
  are = record {
    rest = λ lt. absurd (not_both lt (at_most_itself _));
    within = λ p none. absurd none;
    judged = λ p lt. absurd (not_both lt (origin_first p));
    first = record { each = tt; rising = tt; below = tt };
    below = tt;
    held = tt;
  };
  ready = c.of.ensures.ready selection (record { address = 0; op = 0 });
}
