use Rattle.lnt_text.proofs.ReadLemmas.{IsRead}
use Rattle.lnt_text.proofs.read.number.Given as goal

abbrev pub invariant-loop-byte : goal.invariant-loop-byte
invariant-loop-byte l = IsRead l.radix l.digits l.byte-index l.value
