use Rattle.lnt_records.proofs.LineLemmas.{more_taken}
use Rattle.lnt_records.proofs.lines.more_at.Goals as goal

pub returns-in_ok-discriminator-in-Two : goal.returns-in_ok-discriminator-in-Two
returns-in_ok-discriminator-in-Two c =
    rw c.in-Two.is (more_taken _ _ _ _ _ _ c.in_ok-at-in-Two.ensures c.in_ok-isa-in-Two.ensures c.in_ok-discriminator-in-Two.ensures)
