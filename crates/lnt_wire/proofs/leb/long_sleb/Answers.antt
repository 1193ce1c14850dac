use Rattle.std.proofs.Common.{take}
use Rattle.lnt_wire.specs.Leb128.{IsLargeSigned}
use Rattle.lnt_wire.proofs.LebLemmas.{none_large_signed, is_large_signed}
use Rattle.lnt_wire.proofs.leb.long_sleb.Goals as goal

pub returns-in-None-clause-err : goal.returns-in-None-clause-err
returns-in-None-clause-err c =
    let size = c.in-Some-leb_size.size in
    let large : IsLargeSigned (take size c.args.bytes.now) = rw (← c.split_at.ensures.front) c.in-None.ensures in (
      none_large_signed c.args.bytes.now size c.in-Some-leb_size.ensures.1 large,
      is_large_signed c.args.bytes.now size c.in-Some-leb_size.ensures.1 large,
    )
