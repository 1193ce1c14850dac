use Rattle.std.proofs.Common.{◌∙◌, arith, ap, ◌∷◌, ℕ, List, subst, ◌<◌, ◌≤◌, length, drop}
use Rattle.lnt_text.specs.Digits.{IsPlainDecimal, Begins}
use Rattle.lnt_records.proofs.TextLemmas.{more_put, no_more_put, room_ends, set_before}
use Rattle.lnt_records.proofs.text.more_before.Goals as goal

pub returns-in-None-clause-written : goal.returns-in-None-clause-written
returns-in-None-clause-written c version is =
    no_more_put version c.args.answer.now _ c.in-None.is
    (set_before c.args.room.now 256 10 (omega arith) (omega (arith, c.told-room))
    ∙ ap (λ (t : List ℕ). 10 ∷ t) (room_ends c.args.room.now c.told-room)) is

pub returns-in-Some-clause-written : goal.returns-in-Some-clause-written
returns-in-Some-clause-written c version is =
    let last = c.number_before-at in
    let first = c.number_before-at-in-Some in
    let some : 0 < first.result = omega (arith, first.ensures.begins, last.ensures.begins) in
    let within : first.result ≤ length first.new.room = omega (arith, first.ensures.begins, last.ensures.begins, first.array_long) in
    let end = subst (λ (t : List ℕ). Begins IsPlainDecimal (drop last.result last.new.room) c.in-Some.more.discriminator 10 t)
    (room_ends c.args.room.now c.told-room) last.ensures.written in
    more_put version c.args.answer.now c.in-Some.more _ _ _ c.in-Some.is (set_before first.new.room first.result 44 some within)
    first.ensures.written end is
