use Rattle.std.proofs.Common.{refl}
use Rattle.lnt_header_bytes.proofs.StartReaders.{refuses_other_selector}
use Rattle.lnt_header_bytes.proofs.start.read_selector_size.Goals as goal

pub returns-else-size-eq0-clause-err : goal.returns-else-size-eq0-clause-err
returns-else-size-eq0-clause-err c =
    refuses_other_selector c.in_ok-size.size c.args.cursor.now c.u8.new.self _ refl c.place-place.ensures.value c.in_ok-size.ensures.ok
    c.if-size-eq0.false
