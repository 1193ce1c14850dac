use Rattle.std.proofs.Common.{rules}
use Rattle.lnt_answers.proofs.AddressLemmas.{cut_found, cut_missing}
use Rattle.lnt_answers.proofs.CommaLemmas.{place_found, place_missing}
use Rattle.lnt_answers.proofs.addresses.place_of.Goals as goal

pub returns-then-text-place-clause-place : goal.returns-then-text-place-clause-place
returns-then-text-place-clause-place c =
    place_found c.args.byte c.args.text.now c.loop-place.place (search rules) c.loop-place.invariant (search rules)

pub returns-then-text-place-clause-cut : goal.returns-then-text-place-clause-cut
returns-then-text-place-clause-cut c =
    cut_found c.args.byte c.args.text.now c.loop-place.place (search rules) c.loop-place.invariant (search rules)

pub returns-clause-place : goal.returns-clause-place
returns-clause-place c = place_missing c.args.byte c.args.text.now c.loop-place.place (search rules) c.loop-place.invariant

pub returns-clause-cut : goal.returns-clause-cut
returns-clause-cut c = cut_missing c.args.byte c.args.text.now c.loop-place.place (search rules) c.loop-place.invariant
