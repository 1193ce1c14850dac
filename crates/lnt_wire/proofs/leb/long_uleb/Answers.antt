use Rattle.std.proofs.Common.{take}
use Rattle.lnt_wire.specs.Leb128.{IsLargeUnsigned}
use Rattle.lnt_wire.proofs.LebLemmas.{none_large, is_large}
use Rattle.lnt_wire.proofs.leb.long_uleb.Goals as goal

pub returns-in-None-clause-err : goal.returns-in-None-clause-err
returns-in-None-clause-err c =
    let size = c.in-Some-leb_size.size in
    let large : IsLargeUnsigned (take size c.args.bytes.now) = rw (← c.split_at.ensures.front) c.in-None.ensures in
    (none_large c.args.bytes.now size c.in-Some-leb_size.ensures.1 large, is_large c.args.bytes.now size c.in-Some-leb_size.ensures.1 large)
