use Rattle.std.proofs.Common.{arith}
use Rattle.std.proofs.lemmas.Grind.{common_steps}
use Rattle.std.proofs.lemmas.List.{map-append, take_all, take_more}
use Rattle.lnt_words.proofs.RefusalLemmas.{err_all, no_addresses}
use Rattle.lnt_words.proofs.WordLemmas.{addresses_more}
use Rattle.lnt_words.proofs.words.addresses_of.Goals as goal

pub loop-word-preserved : goal.loop-word-preserved
loop-word-preserved c = grind (arith, common_steps, take_more, map-append, addresses_more)

pub returns-in_err-address-clause-refused : goal.returns-in_err-address-clause-refused
returns-in_err-address-clause-refused c =
    err_all c.from_residual.result _ (λ stop said addresses so.
    no_addresses c.args.given.now c.loop-word.word-index _ addresses c.loop-word-test.true c.in_err-address.ensures.refused so)

pub returns-clause-asked : goal.returns-clause-asked
returns-clause-asked c = grind (arith, common_steps, take_all)
