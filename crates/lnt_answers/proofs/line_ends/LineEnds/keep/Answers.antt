use Rattle.std.proofs.Common.{◌≡◌, ◌∙◌, IfSome, Option, Some}
use Rattle.std.proofs.lemmas.List.Elements.{All-set}
use Rattle.lnt_lines.specs.Indexed.{file_path_in}
use Rattle.lnt_answers.specs.Lines.{path_end}
use Rattle.lnt_answers.specs.declared.line_ends.LineEnd.{LineEnd}
use Rattle.lnt_answers.proofs.line_ends.LineEnds.keep.Goals as goal

pub returns-in-Some : goal.returns-in-Some
returns-in-Some c index same all =
    All-set (λ (slot : Option LineEnd). IfSome slot (λ end. end.text.items ≡ path_end (file_path_in index end.unit end.file)))
    c.args.self.now.slots.items c.slot_of.result (Some (record { unit = c.args.unit; file = c.args.file; text = c.in_ok-text.text }))
    (c.in_ok-text.ensures.items ∙ same) all
