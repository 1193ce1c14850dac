use Rattle.lnt_text.specs.Digits.{IsPlainAddress, IsPlainDecimal}
use Rattle.lnt_records.proofs.LineLemmas.{position_taken}
use Rattle.lnt_records.proofs.text.position_before.Goals as goal

pub returns-clause-written : goal.returns-clause-written
returns-clause-written c =
    position_taken IsPlainAddress IsPlainDecimal c.args.position _ _ _ c.address_field_before.ensures.written
    c.number_before-at.ensures.written
