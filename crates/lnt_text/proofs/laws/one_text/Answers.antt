use Rattle.lnt_text.proofs.OneTextLaws.{one_address, one_decimal}
use Rattle.lnt_text.proofs.laws.one_text.Goals as goal

pub returns-clause-decimal : goal.returns-clause-decimal
returns-clause-decimal c = one_decimal

pub returns-clause-address : goal.returns-clause-address
returns-clause-address c = one_address
