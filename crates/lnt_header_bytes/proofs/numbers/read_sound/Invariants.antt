use Rattle.lnt_header_bytes.proofs.SoundLemmas.{BytesSoFar}
use Rattle.lnt_header_bytes.proofs.numbers.read_sound.Given as goal

abbrev pub invariant-loop-zero_reason : goal.invariant-loop-zero_reason
invariant-loop-zero_reason l = BytesSoFar l.fn.zero_reasons l.zero_reason-index l.fn.cursor l.cursor
