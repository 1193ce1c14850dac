use Rattle.std.proofs.Common.{drop}
use Rattle.lnt_records.proofs.TextLemmas.{kept_position}
use Rattle.lnt_records.proofs.text.KeptPosition.keep.Goals as goal

pub invariant_of-self : goal.invariant_of-self
invariant_of-self c =
    let text = c.of.result in
    let is = c.requires.fields in
    record {
      fits = (is.address_is.plain.number.fits, is.op_is.number.fits);
      fields = kept_position c.args.position _ (drop text.start text.text) _ is c.of.ensures.kept;
    }
