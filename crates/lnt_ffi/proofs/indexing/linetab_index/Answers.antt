use Rattle.std.proofs.Common.{◌∙◌, ◌+◌, ◌-◌, ◌^◌, ℕ, ap, arith, min, get_or-set_other, length-set}
use Rattle.lnt_ffi.proofs.IndexLemmas.{more_below, one_entry}
use Rattle.lnt_ffi.proofs.indexing.linetab_index.Goals as goal

pub loop-number-preserved : goal.loop-number-preserved
loop-number-preserved c =
    let same = length-set c.loop-number.index (c.loop-number.number + 1) c.entry_of.result in
    let some = c.loop-number.invariant.some in
    let test = c.loop-number-test.true in
    record {
      size = same ∙ c.loop-number.invariant.size;
      some = omega (arith, same, some);
      upto = let more = more_below c.args.spans.now c.shift_of-shift.result c.loop-number.number in
          let e = c.first_of_bucket-place.ensures in
          omega (arith, more, e);
      shift_is = λ d. get_or-set_other c.loop-number.index (c.loop-number.number + 1) 0 c.entry_of.result d (omega arith)
          ∙ c.loop-number.invariant.shift_is d;
      done = one_entry c.args.spans.now c.loop-number.index c.shift_of-shift.result c.loop-number.number c.entry_of.result
          (omega (arith, some, test))
          c.loop-number.invariant.done
          (c.entry_of.ensures ∙ ap (λ (n : ℕ). min n (2 ^ 32 - 1)) c.first_of_bucket-place.ensures);
    }
