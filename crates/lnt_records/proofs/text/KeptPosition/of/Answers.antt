use Rattle.std.proofs.Common.{drop}
use Rattle.lnt_records.proofs.TextLemmas.{kept_position, kept_to_end}
use Rattle.lnt_records.proofs.text.KeptPosition.of.Goals as goal

pub invariant_of-result : goal.invariant_of-result
invariant_of-result c =
    let text = c.of.result in
    let put = c.position_before-at in
    let is = put.ensures.written in
    record {
      fits = (is.address_is.plain.number.fits, is.op_is.number.fits);
      fields = kept_position c.args.position _ (drop text.start text.text) _ is
          (kept_to_end put.new.room _ _ put.array_long c.of.ensures.kept);
    }
