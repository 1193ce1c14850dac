use Rattle.std.proofs.Common.{refl}
use Rattle.lnt_header_bytes.proofs.SoundLemmas.{byte_zero}
use Rattle.lnt_header_bytes.proofs.numbers.read_byte.Goals as goal

pub returns-in-Some-clause-err : goal.returns-in-Some-clause-err
returns-in-Some-clause-err c =
    byte_zero c.args.zero_reason c.in-Some.reason c.in_ok-byte.byte c.args.cursor.now c.u8.new.self _ c.in-Some.is c.if-byte-eq0.true
    c.in_ok-byte.ensures.ok c.place-place.ensures.value refl
