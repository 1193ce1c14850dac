use Rattle.std.proofs.Common.{refl}
use Rattle.lnt_header_bytes.proofs.StartReaders.{refuses_other_size}
use Rattle.lnt_header_bytes.proofs.start.read_address_size.Goals as goal

pub returns-else-is_address_size-clause-err : goal.returns-else-is_address_size-clause-err
returns-else-is_address_size-clause-err c =
    refuses_other_size c.in_ok-size.size c.args.cursor.now c.u8.new.self _ refl c.place-place.ensures.value c.in_ok-size.ensures.ok
    (λ is. cc (c.if-is_address_size.false, c.is_address_size.ensures.1 is))
