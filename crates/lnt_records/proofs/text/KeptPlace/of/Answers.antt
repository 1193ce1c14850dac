use Rattle.std.proofs.Common.{drop}
use Rattle.lnt_records.proofs.TextLemmas.{kept_fields, kept_to_end}
use Rattle.lnt_records.proofs.text.KeptPlace.of.Goals as goal

pub invariant_of-result : goal.invariant_of-result
invariant_of-result c =
    let text = c.of.result in
    let unit = c.number_before-at-2 in
    record {
      fields = kept_fields c.args.unit c.args.file _ (drop text.start text.text) _ _ unit.ensures.written
          c.number_before-at.ensures.written (kept_to_end unit.new.room _ _ unit.array_long c.of.ensures.kept);
    }
