use Rattle.std.proofs.Common.{◌∙◌, ap, arith, refl}
use Rattle.lnt_table.proofs.wrong.WrongStretches.next_wrong.Goals as goal

pub loop-ended-init : goal.loop-ended-init
loop-ended-init g c = record { most = omega (arith); scope = refl; tell = refl; going = c.requires; found = λ selection f f' given h. h }

pub next_of_rest-requires : goal.next_of_rest-requires
next_of_rest-requires g c = c.loop-ended.invariant.going

pub returns-in_err-ended-clause-scope : goal.returns-in_err-ended-clause-scope
returns-in_err-ended-clause-scope g c = c.next_of_rest.ensures.scope ∙ c.loop-ended.invariant.scope

pub returns-in_err-ended-clause-tell : goal.returns-in_err-ended-clause-tell
returns-in_err-ended-clause-tell g c = ap g.K.KeptStretches.tell c.next_of_rest.ensures.kept ∙ c.loop-ended.invariant.tell

pub returns-in-Some-clause-scope : goal.returns-in-Some-clause-scope
returns-in-Some-clause-scope g c = c.next_of_rest.ensures.scope ∙ c.loop-ended.invariant.scope

pub returns-in-Some-clause-tell : goal.returns-in-Some-clause-tell
returns-in-Some-clause-tell g c = ap g.K.KeptStretches.tell c.next_of_rest.ensures.kept ∙ c.loop-ended.invariant.tell

pub returns-in-Some-clause-found : goal.returns-in-Some-clause-found
returns-in-Some-clause-found g c selection f f' given h =
    let told = rw c.in-Some.is at c.in_ok-ended.ensures.found selection f f' given (c.loop-ended.invariant.found selection f f' given h) in
    (told.0, rw (c.loop-ended.invariant.scope, c.loop-ended.invariant.tell) at told.1)

pub returns-in_err-go_on-clause-scope : goal.returns-in_err-go_on-clause-scope
returns-in_err-go_on-clause-scope g c = c.go_on.ensures.scope ∙ c.next_of_rest.ensures.scope ∙ c.loop-ended.invariant.scope

pub returns-in_err-go_on-clause-tell : goal.returns-in_err-go_on-clause-tell
returns-in_err-go_on-clause-tell g c =
    c.go_on.ensures.tell ∙ ap g.K.KeptStretches.tell c.next_of_rest.ensures.kept ∙ c.loop-ended.invariant.tell

pub returns-then-not-branch-clause-scope : goal.returns-then-not-branch-clause-scope
returns-then-not-branch-clause-scope g c = c.go_on.ensures.scope ∙ c.next_of_rest.ensures.scope ∙ c.loop-ended.invariant.scope

pub returns-then-not-branch-clause-tell : goal.returns-then-not-branch-clause-tell
returns-then-not-branch-clause-tell g c =
    c.go_on.ensures.tell ∙ ap g.K.KeptStretches.tell c.next_of_rest.ensures.kept ∙ c.loop-ended.invariant.tell

pub returns-then-not-branch-clause-found : goal.returns-then-not-branch-clause-found
returns-then-not-branch-clause-found g c selection f f' given h =
    let inv = c.loop-ended.invariant in
    let left = rw c.in_default.is at c.in_ok-ended.ensures.found selection f f' given (inv.found selection f f' given h) in
    let told = rw c.if-not-branch.true at c.in_ok-go_on.ensures.found selection f f' given left in
    (rw (c.next_of_rest.ensures.scope, c.next_of_rest.ensures.kept, inv.scope, inv.tell) at told.0, told.1)

pub loop-ended-preserved : goal.loop-ended-preserved
loop-ended-preserved g c =
    let inv = c.loop-ended.invariant in
    let rest = rw c.in_default.is at c.in_ok-ended.ensures.fewer in
    let next = (rw c.if-not-branch.false at c.in_ok-go_on.ensures.fewer) refl in
    record {
      most = omega (arith, inv.most, rest, next);
      scope = c.go_on.ensures.scope ∙ c.next_of_rest.ensures.scope ∙ inv.scope;
      tell = c.go_on.ensures.tell ∙ ap g.K.KeptStretches.tell c.next_of_rest.ensures.kept ∙ inv.tell;
      going = (rw c.if-not-branch.false at c.in_ok-go_on.ensures.going) refl;
      found = λ selection f f' given h.
          rw c.if-not-branch.false at c.in_ok-go_on.ensures.found selection f f' given
          (rw c.in_default.is at c.in_ok-ended.ensures.found selection f f' given (inv.found selection f f' given h));
    }

pub loop-ended-smaller : goal.loop-ended-smaller
loop-ended-smaller g c =
    let rest = rw c.in_default.is at c.in_ok-ended.ensures.fewer in
    let next = (rw c.if-not-branch.false at c.in_ok-go_on.ensures.fewer) refl in
    omega (arith, rest, next)

pub returns-in-Some-clause-fewer : goal.returns-in-Some-clause-fewer
returns-in-Some-clause-fewer g c =
    let fewer = rw c.in-Some.is at c.in_ok-ended.ensures.fewer in
    omega (arith, c.loop-ended.invariant.most, fewer)
