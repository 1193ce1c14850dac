use Rattle.std.proofs.Common.{ℕ, List, [], ◌∷◌, arith}
use Rattle.lnt_records.specs.Reading.{IsNarrow}
use Rattle.lnt_records.specs.Table.{BeginsWith, Fields}
use Rattle.lnt_compare.proofs.StreamLaws.{holds_of_rest}
use Rattle.lnt_compare.proofs.WindowLaws.{longer_from_start, passes_both}
use Rattle.lnt_compare.proofs.stream.compare_coming.Goals as goal

pub push_lines-requires-clause-right : goal.push_lines-requires-clause-right
push_lines-requires-clause-right g c = c.requires.right _ (rw c.past-state.ensures.memory c.in_ok-passed.ensures.sound)

pub returns-in_err-text-clause-too_long : goal.returns-in_err-text-clause-too_long
returns-in_err-text-clause-too_long g c e =
    let spans = c.in_ok-passed.ensures.ok in
    let lines = c.in_ok-next.ensures.ok in
    grind (
      arith,
      c.in_err-text.ensures.too_long,
      c.from_residual-in_err-text.ensures,
      longer_from_start _ _ _ _ _ _ _ (passes_both _ _ _ _ _ _ _ _ _ _ _ spans.2 lines.1),
      e,
    )

pub compare_after-requires-clause-first : goal.compare_after-requires-clause-first
compare_after-requires-clause-first g c =
    let ends = rw (← c.deref.ensures.value) at c.in_ok-text.ensures.ok in
    holds_of_rest (λ (text : List ℕ). (first : Fields) × IsNarrow first × BeginsWith text (first ∷ [])) _ _ _ c.push_lines.new.window
    c.deref.result.now (rw c.header.ensures at ends) c.requires.first

pub returns-clause-ok : goal.returns-clause-ok
returns-clause-ok g c =
    let spans = c.in_ok-passed.ensures.ok in
    let lines = c.in_ok-next.ensures.ok in
    let ends = rw (← c.deref.ensures.value) at c.in_ok-text.ensures.ok in record {
      table = spans.1;
      compared = spans.0;
      count = c.in_ok-passed.passed.count;
      end = c.in_ok-passed.passed.end;
      lines = spans.3;
      spans = c.in_ok-passed.passed.spans;
      answered = c.in_ok-passed.passed.answered;
      left = spans.4;
      old = c.past-state.result;
      past = c.past-state.ensures.past;
      new = c.push_lines.new.state;
      parsed = lines.0;
      next = c.in_ok-next.next;
      taken = lines.2;
      source_after = g.T.Source.remaining c.push_lines.new.source;
      may_still = g.T.Source.left c.push_lines.new.source;
      window_after = c.push_lines.new.window;
      passes = passes_both _ _ _ _ _ _ _ _ _ _ _ spans.2 lines.1;
      all = c.deref.result.now;
      ends = rw c.header.ensures at ends;
      found = c.in_ok-outcome.ensures;
    }
