use Rattle.std.proofs.Common.{subst, sym}
use Rattle.clap.specs.Words.{Text}
use Rattle.lnt_text.specs.Digits.{IsAddress}
use Rattle.lnt_words.proofs.words.address_of.Goals as goal

pub returns-in-None : goal.returns-in-None
returns-in-None c = record {
  asked = tt;
  refused = λ address so. c.in-None.ensures address (subst (λ (w : Text). IsAddress w address) (sym c.as_bytes.ensures.value) so);
}
