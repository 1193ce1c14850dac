use Rattle.std.proofs.Common.{◌<◌, ◌≡◌, ◌∙◌, ℕ, inl, inr, arith, length, refl, sym, subst, get_or, Option}
use Rattle.std.proofs.Common.{get_or-set_other, length-set}
use Rattle.std.proofs.lemmas.Bool.{cases_eq, cases_lt}
use Rattle.lnt_spans.specs.declared.answer.Answer.{Answer}
use Rattle.lnt_spans.specs.declared.position.Position.{Position}
use Rattle.lnt_spans.proofs.PositionLaws.{at_most_below, at_most_itself, at_most_trans, below_at_most, not_both, order_cases, same_position}
use Rattle.lnt_table.specs.declared.said.SequenceSpans.{SequenceSpans}
use Rattle.lnt_table.specs.Said.{OneSays, SaysFrom}
use Rattle.lnt_table.proofs.SaidLemmas.{moved, still_itself, still_set}
use Rattle.lnt_table.proofs.said.first_said.Goals as goal

pub loop-sequence-init : goal.loop-sequence-init
loop-sequence-init g c = record {
  past = c.requires;
  upto = at_most_itself c.args.high;
  count = refl;
  ahead = λ k d le. refl;
  kept = still_itself g.S.SpanSource.to_come _ _ c.args.sequences.now c.args.low c.args.high;
  unsaid = λ k d whole answers lt h p le below says. absurd (omega (arith, lt));
  said = λ below. absurd (not_both below (at_most_itself c.args.high));
}

pub said_from-requires : goal.said_from-requires
said_from-requires g c = c.loop-sequence.invariant.past

pub returns-clause-unsaid : goal.returns-clause-unsaid
returns-clause-unsaid g c p le below k d whole answers lt h says =
    c.loop-sequence.invariant.unsaid k d whole answers (omega (arith, lt, c.loop-sequence-test.false, c.loop-sequence.invariant.count)) h
    p le
    below says

pub loop-sequence-preserved : goal.loop-sequence-preserved
loop-sequence-preserved g c =
    let inv = c.loop-sequence.invariant in
    let one = c.in_ok-to.ensures in
    let now = c.loop-sequence.sequences in
    let i = c.loop-sequence.sequence-index in
    let inside : i < length now = omega (arith, c.loop-sequence-test.true, c.loop-sequence.auto.sequences) in
    let tell = g.A.TableAnswer.tell c.args.answer.now in
    let told = g.A.TableAnswer.said c.args.answer.now in
    let item : (d : SequenceSpans _) (whole : Position) (answers : Position → Option Answer)
    → SaysFrom g.S.SpanSource.to_come tell told (get_or c.args.sequences.now i d) c.args.low whole answers
    → SaysFrom g.S.SpanSource.to_come tell told (get_or now i c.sequence-item.result) c.args.low whole answers =
    λ d whole answers h. moved g.S.SpanSource.to_come tell told now i d c.sequence-item.result c.args.low whole answers inside
    (subst (λ (s : SequenceSpans _). SaysFrom g.S.SpanSource.to_come tell told s c.args.low whole answers)
    (sym (inv.ahead i d (omega (arith)))) h) in
    record {
      past = one.past;
      upto = at_most_trans one.upto inv.upto;
      count = length-set now i c.said_from.new.self ∙ inv.count;
      ahead = λ k d le. elim (cases_eq k i) [
        | inl same ↦ absurd (omega (arith, le, same))
        | inr other ↦ get_or-set_other now i k c.said_from.new.self d other ∙ inv.ahead k d (omega (arith, le))
      ];
      kept = still_set g.S.SpanSource.to_come _ _ _ _ c.args.low c.args.low c.args.low c.args.high i c.said_from.new.self inv.kept inside
          (at_most_itself c.args.low)
          (λ d whole answers upto h. one.kept whole answers (at_most_trans inv.upto upto)
          (moved g.S.SpanSource.to_come _ _ now i d _ _ whole answers inside h));
      unsaid = λ k d whole answers lt h p le below says. elim (cases_lt k i) [
        | inl early ↦ inv.unsaid k d whole answers early h p le (below_at_most below one.upto) says
        | inr here ↦
            let same : k ≡ i = omega (arith, lt, here) in
            one.unsaid whole answers (item d whole answers (subst (λ (n : ℕ).
            SaysFrom g.S.SpanSource.to_come tell told (get_or c.args.sequences.now n d) c.args.low whole answers) same h)) p le below says
      ];
      said = λ below. elim (order_cases c.in_ok-to.to c.loop-sequence.to) [
        | inl early ↦ (i, omega (arith, inside, inv.count), λ d whole answers h. one.said early whole answers (item d whole answers h))
        | inr late ↦ subst (λ (q : Position). OneSays g.S.SpanSource.to_come (g.A.TableAnswer.tell c.args.answer.now)
            (g.A.TableAnswer.said c.args.answer.now) c.args.sequences.now c.args.low q)
            (same_position c.loop-sequence.to c.in_ok-to.to one.upto late) (inv.said (at_most_below late below))
      ];
    }
