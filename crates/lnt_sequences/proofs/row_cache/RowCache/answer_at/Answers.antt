use Rattle.std.proofs.Common.{Option, ap, ◌∙◌, option_map}
use Rattle.lnt_machine.specs.declared.row.Row.{Row}
use Rattle.lnt_sequences.specs.Sequences.{answer_of}
use Rattle.lnt_sequences.proofs.row_cache.RowCache.answer_at.Goals as goal

pub returns-in-Some-clause-answer : goal.returns-in-Some-clause-answer
returns-in-Some-clause-answer c list will cache ordered = c.in-Some.ensures list cache ordered

pub returns-in_err-row_at-in-None-clause-cache : goal.returns-in_err-row_at-in-None-clause-cache
returns-in_err-row_at-in-None-clause-cache c list will cache =
    record { in_brief = cache.in_brief; checkpointed = c.in_err-row_at-in-None.ensures.checkpoints list will cache.checkpointed }

pub returns-in_ok-row_at-in-None-clause-cache : goal.returns-in_ok-row_at-in-None-clause-cache
returns-in_ok-row_at-in-None-clause-cache c list will cache =
    record { in_brief = cache.in_brief; checkpointed = c.in_ok-row_at-in-None.ensures.checkpoints list will cache.checkpointed }

pub returns-in_ok-row_at-in-None-clause-answer : goal.returns-in_ok-row_at-in-None-clause-answer
returns-in_ok-row_at-in-None-clause-answer c list will cache ordered = c.said_by.ensures
    ∙ ap (λ (row : Option Row). option_map (answer_of c.args.unit) row)
    (c.in_ok-row_at-in-None.ensures.found list will cache.checkpointed ordered)
