use Rattle.lnt_text.proofs.DelimitedLemmas.{address_begins}
use Rattle.lnt_text.proofs.delimited.address_until.Goals as goal

pub returns : goal.returns
returns c = address_begins _ _ _ _ _ _ c.in_ok-at.ensures c.in_ok-at-2.ensures c.in_ok-number.ensures
