use Rattle.std.proofs.Common.{◌∙◌, arith, sym}
use Rattle.std.proofs.lemmas.List.Sums.{prefix_len-le-length}
use Rattle.lnt_ffi.specs.Index.{begins_below, first_low}
use Rattle.lnt_ffi.proofs.IndexLemmas.{none_below_here, one_more_below}
use Rattle.lnt_ffi.proofs.indexing.first_of_bucket.Goals as goal

pub loop-place-preserved : goal.loop-place-preserved
loop-place-preserved c = record {
  upto = one_more_below c.args.spans.now _ _ _ _ _ c.requires.first c.loop-place.invariant.upto c.loop-place-test.true
      (sym c.begins_below.ensures ∙ c.if-begins_below.true);
}

pub returns-else-begins_below : goal.returns-else-begins_below
returns-else-begins_below c =
    none_below_here c.args.spans.now _ _ _ _ _ c.requires.first c.loop-place.invariant.upto
    (sym c.begins_below.ensures ∙ c.if-begins_below.false)

pub returns-after-loop-place : goal.returns-after-loop-place
returns-after-loop-place c =
    let most = prefix_len-le-length (begins_below (first_low c.args.spans.now) c.args.shift c.args.number) c.args.spans.now in
    omega (arith, most)
