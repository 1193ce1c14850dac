use Rattle.std.proofs.Common.{refl}
use Rattle.std.proofs.lemmas.List.Sorted.{All-permutation}
use Rattle.lnt_spans.specs.Positions.{IsBelow}
use Rattle.lnt_sequences.specs.declared.extent.Extent.{Extent}
use Rattle.lnt_sequences.proofs.OverlapLemmas.{disjoint_before, overlap_before}
use Rattle.lnt_sequences.proofs.extent.first_overlap.Goals as goal

pub returns-in_err-place-clause-apart : goal.returns-in_err-place-clause-apart
returns-in_err-place-clause-apart c =
    rw c.from_residual.ensures (disjoint_before _ _ c.sort.ensures.permutation c.sort.ensures.sorted c.in_err-place.ensures)

pub returns-clause-overlap : goal.returns-clause-overlap
returns-clause-overlap c =
    let crossed = c.in_ok-place.ensures in
    record {
      one = _;
      other = _;
      first_is = refl;
      second_is = refl;
      position_is = refl;
      first = overlap_before _ _ c.sort.ensures.permutation c.sort.ensures.sorted c.requires.some c.requires.ids c.in_ok-place.place _
          crossed.0 crossed.1 (crossed.2 _);
    }

pub returns-in_err-place-clause-settled : goal.returns-in_err-place-clause-settled
returns-in_err-place-clause-settled c =
    rw c.from_residual.ensures (record {
      some = All-permutation (λ (e : Extent). IsBelow e.low e.high) _ _ c.sort.ensures.permutation c.requires.some;
      sorted = c.sort.ensures.sorted;
      apart = c.in_err-place.ensures;
    })
