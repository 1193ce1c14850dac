use Rattle.std.proofs.Common.{rules}
use Rattle.lnt_lines.specs.Cursors.{AreToCome}
use Rattle.lnt_sequences.specs.RowSpans.{spans_of}
use Rattle.lnt_sequences.specs.Sequences.{kept_sequences}
use Rattle.lnt_notes.proofs.HintLemmas.{no_first_of_none}
use Rattle.lnt_notes.proofs.note.hints_of.Goals as goal

pub returns-clause-nothing : goal.returns-clause-nothing
returns-clause-nothing c selection is =
    let all = c.spans.ensures.gives selection is in
    no_first_of_none (AreToCome c.next_span-first.new.self) all.spans (spans_of (kept_sequences selection)) c.next_span-first.result
    c.is_none.result (c.next_span-first.ensures.gives all.spans all.to_come) all.spans_are (search rules)
