use Rattle.lnt_sequences.proofs.row_cache.RowCache.new.Goals as goal

pub returns : goal.returns
returns c list will = record { in_brief = c.in_ok-brief.ensures list will; checkpointed = c.new.ensures list }
