use Rattle.std.proofs.Common.{ℕ, List, drop, subst, refl}
use Rattle.lnt_text.specs.Digits.{Begins, IsPlainDecimal}
use Rattle.lnt_records.proofs.TextLemmas.{room_ends}
use Rattle.lnt_records.proofs.path_records.line.place_before.Goals as goal

pub returns-in-Three-clause-written : goal.returns-in-Three-clause-written
returns-in-Three-clause-written c =
    let column = c.number_before-at in
    let from : List ℕ = drop column.result column.new.room in
    rw c.in-Three.is (
      from,
      c.number_before.ensures.written,
      subst (Begins IsPlainDecimal from c.args.answer.now.column 10) (room_ends c.args.room.now c.told-room) column.ensures.written,
    )

pub returns-in-Four-clause-written : goal.returns-in-Four-clause-written
returns-in-Four-clause-written c =
    let line = c.number_before-in-Four in
    rw c.in-Four.is (
      refl,
      subst (Begins IsPlainDecimal (drop line.result line.new.room) c.args.answer.now.line 10) (room_ends c.args.room.now c.told-room)
          line.ensures.written,
    )
