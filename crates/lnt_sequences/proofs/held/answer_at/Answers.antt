use Rattle.std.proofs.Common.{Option, ap, ◌∙◌, option_map}
use Rattle.lnt_machine.specs.declared.row.Row.{Row}
use Rattle.lnt_sequences.specs.Sequences.{answer_of}
use Rattle.lnt_sequences.proofs.held.answer_at.Goals as goal

pub returns : goal.returns
returns c list will ordered =
    c.said_by.ensures ∙ ap (λ (row : Option Row). option_map (answer_of c.args.unit) row) (c.row_at.ensures list will ordered)
