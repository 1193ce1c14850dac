use Rattle.std.proofs.Common.{◌∙◌}
use Rattle.lnt_table.specs.Asked.{AreReady}
use Rattle.lnt_table.proofs.AskedLemmas.{no_piece, none_if, piece_at, unanswered_judged, unanswered_ready, upto_end}
use Rattle.lnt_spans.proofs.PositionLaws.{at_most_below}
use Rattle.lnt_sequences.specs.Copies.{IsAnyAnswer}
use Rattle.lnt_table.proofs.wrong.wrong_in.Goals as goal

pub returns-then-not-is_answered-clause-found : goal.returns-then-not-is_answered-clause-found
returns-then-not-is_answered-clause-found g c selection is live f f' same stay differ ready =
    let none = none_if _ (rw c.if-not-is_answered.true at c.is_answered.ensures) in (
      rw c.unanswered.ensures
          (unanswered_judged c.args.scope (g.K.KeptStretches.tell c.args.kept.now) selection f f' c.args.from c.args.end c.requires.some
          same (λ p le lt. ((stay p le lt).table ∙ none, λ e. differ (none ∙ e ∙ (stay p le lt).section)))),
      unanswered_ready (g.K.KeptStretches.tell c.args.kept.now) selection c.args.copies.now _ none c.args.from _ c.args.end ready,
    )

pub first_turn-requires-2-clause-some : goal.first_turn-requires-2-clause-some
first_turn-requires-2-clause-some g c = (rw c.in-Some.is at c.in_ok-low.ensures.range).1

pub returns-in_default-clause-found : goal.returns-in_default-clause-found
returns-in_default-clause-found g c selection is live f f' same stay differ ready =
    no_piece c.args.scope (IsAnyAnswer (g.K.KeptStretches.tell c.args.kept.now) selection) f' c.args.from c.args.end
    (AreReady (g.K.KeptStretches.tell c.args.kept.now) selection c.args.copies.now)
    (AreReady (g.K.KeptStretches.tell c.args.kept.now) selection c.first_turn.new.copies)
    (AreReady (g.K.KeptStretches.tell c.args.kept.now) selection c.first_turn.new.copies)
    (g.K.KeptStretches.value_of c.args.difference.now).by_table (rw c.if-not-is_answered.false at c.is_answered.ensures)
    (λ p le lt. (stay p le lt).table) ready (rw c.in_default.is at c.in_ok-low.ensures.found selection is live)

pub end_of-high-requires-clause-some : goal.end_of-high-requires-clause-some
end_of-high-requires-clause-some g c = (rw c.in-Some.is at c.in_ok-low.ensures.range).1

pub end_of-high-requires-clause-within : goal.end_of-high-requires-clause-within
end_of-high-requires-clause-within g c = upto_end _ _ _ c.in_ok-found.ensures.range

pub returns-clause-range : goal.returns-clause-range
returns-clause-range g c = (
  at_most_below (rw c.in-Some.is at c.in_ok-low.ensures.range).0 c.end_of-high.ensures.past,
  c.end_of-high.ensures.upto,
)

pub returns-clause-found : goal.returns-clause-found
returns-clause-found g c selection is live f f' same stay differ ready =
    piece_at c.args.scope (IsAnyAnswer (g.K.KeptStretches.tell c.args.kept.now) selection) f' c.args.from c.args.end
    (AreReady (g.K.KeptStretches.tell c.args.kept.now) selection c.args.copies.now)
    (AreReady (g.K.KeptStretches.tell c.args.kept.now) selection c.first_turn.new.copies)
    (AreReady (g.K.KeptStretches.tell c.args.kept.now) selection c.first_turn-2.new.copies)
    (g.K.KeptStretches.value_of c.args.difference.now).by_table (rw c.if-not-is_answered.false at c.is_answered.ensures)
    (λ p le lt. (stay p le lt).table) ready c.in-Some.low (rw c.in-Some.is at c.in_ok-low.ensures.found selection is live)
    c.in_ok-found.found ((rw c.in_ok-low.ensures.index at c.in_ok-found.ensures.found) selection is live) c.end_of-high.result
    c.end_of-high.ensures.found
