use Rattle.std.proofs.Common.{ℕ, List, drop, subst}
use Rattle.lnt_text.specs.Digits.{Begins, IsPlainAddress}
use Rattle.lnt_records.proofs.TextLemmas.{room_ends}
use Rattle.lnt_records.proofs.path_records.line.addresses_before.Goals as goal

pub returns-clause-written : goal.returns-clause-written
returns-clause-written c =
    let high = c.address_field_before-at in
    let from : List ℕ = drop high.result high.new.room in (
      from,
      c.address_field_before.ensures.written,
      subst (Begins IsPlainAddress from c.args.span.now.high.address 44) (room_ends c.args.room.now c.told-room) high.ensures.written,
    )
