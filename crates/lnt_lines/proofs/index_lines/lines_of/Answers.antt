use Rattle.std.proofs.Common.{◌≡◌, ◌∙◌, ap, length, List, subst, sym, IsPermutation}
use Rattle.lnt_spans.specs.declared.span.Span.{Span}
use Rattle.lnt_spans.specs.declared.position.Position.{Position}
use Rattle.lnt_spans.specs.Spans.{AreInOrder, span_answer}
use Rattle.lnt_header.specs.Joins.{AreRising}
use Rattle.lnt_sequences.specs.RowSpans.{spans_of}
use Rattle.lnt_sequences.specs.Sequences.{kept_sequences, line_answer}
use Rattle.lnt_lines.specs.Contents.{AreWhole}
use Rattle.lnt_lines.proofs.IndexLemmas.{files_zip, same_number}
use Rattle.lnt_lines.proofs.index_lines.lines_of.Goals as goal

pub of-requires-clause-in_order : goal.of-requires-clause-in_order
of-requires-clause-in_order c =
    let known = c.spans.ensures.is_index in
    let all = c.spans.ensures.gives known.selection known.index_is in
    subst AreInOrder (sym (c.in_ok-spans.ensures all.spans all.to_come)) all.in_order

pub of-requires-clause-whole : goal.of-requires-clause-whole
of-requires-clause-whole c =
    let known = c.spans.ensures.is_index in
    let all = c.spans.ensures.gives known.selection known.index_is in
    subst AreWhole (sym (c.in_ok-spans.ensures all.spans all.to_come)) all.whole

pub of-requires-clause-rising : goal.of-requires-clause-rising
of-requires-clause-rising c =
    subst AreRising (sym (c.in_ok-units.ensures.items ∙ c.units.ensures)) c.spans.ensures.is_index.index_is.rising

pub of-requires-clause-each : goal.of-requires-clause-each
of-requires-clause-each c =
    let known = c.spans.ensures.is_index in
    let units = known.selection.units in
    let files = files_zip c.args.index.now.line c.args.index.now.general units c.args.index.now.programs c.in_ok-files.files.items
    known.index_is.programs c.in_ok-files.ensures in
    ap length (c.in_ok-units.ensures.items ∙ c.units.ensures ∙ known.index_is.offsets)
    ∙ same_number c.args.index.now.line c.args.index.now.general units c.in_ok-files.files.items files

pub returns : goal.returns
returns c = λ selection is.
    let all = c.spans.ensures.gives selection is in
    let spans = c.in_ok-spans.ensures all.spans all.to_come in
    rw c.of.ensures (record {
      spans_are = subst (IsPermutation (spans_of (kept_sequences selection))) (sym spans) all.spans_are;
      in_order = subst AreInOrder (sym spans) all.in_order;
      answers = subst (λ (list : List Span). (p : Position) → span_answer list p ≡ line_answer selection p) (sym spans) all.answers;
      units_are = c.in_ok-units.ensures.items ∙ c.units.ensures ∙ is.offsets;
      files_are = files_zip c.args.index.now.line c.args.index.now.general selection.units c.args.index.now.programs
          c.in_ok-files.files.items is.programs c.in_ok-files.ensures;
    })
