use Rattle.std.proofs.Common.{◌∙◌, [], ap, subst, sym}
use Rattle.lnt_spans.specs.Partial.{AreCounts}
use Rattle.lnt_spans.specs.declared.scope.Coverage.{Coverage}
use Rattle.lnt_table.proofs.AskedLemmas.{first_one}
use Rattle.lnt_table.proofs.asked.ask.Goals as goal

pub next_wrong-requires : goal.next_wrong-requires
next_wrong-requires g c = c.of-wrong.ensures.going c.requires

pub returns-in-Some : goal.returns-in-Some
returns-in-Some g c selection is live f f' same known =
    let told = rw c.in-Some.is at c.in_ok-ended.ensures.found selection f f' []
    (c.of-wrong.ensures.begun selection f f' is live same known) in
    let tell = c.next_wrong.ensures.tell ∙ ap g.K.KeptStretches.tell c.of-wrong.ensures.kept in
    first_one c.args.scope _ f f' (g.K.KeptStretches.value_of c.in-Some.ended.difference)
    (rw (c.next_wrong.ensures.scope ∙ c.of-wrong.ensures.scope, tell) at told.0.are.first)

pub returns : goal.returns
returns g c selection is live f f' same known =
    let told = rw c.in-None.is at c.in_ok-ended.ensures.found selection f f' []
    (c.of-wrong.ensures.begun selection f f' is live same known) in (
      λ p. (rw (c.of-wrong.ensures.scope, c.of-wrong.ensures.kept) at told.0).all p,
      subst (λ (covered : Coverage). AreCounts f' f covered.answered covered.all) (sym c.coverage.ensures) told.1,
    )
