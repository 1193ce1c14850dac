use Rattle.std.proofs.Common.{◌<◌, inl, inr, arith, length}
use Rattle.std.proofs.lemmas.Bool.{cases_lt}
use Rattle.std.proofs.lemmas.List.Sums.{sum_by-set}
use Rattle.lnt_spans.proofs.PositionLaws.{at_most_below, at_most_itself, at_most_trans, below_is_at_most, not_both, order_cases}
use Rattle.lnt_table.specs.Said.{left_of}
use Rattle.lnt_table.proofs.SaidLemmas.{last_unsaid, moved, one_says, said_on, still_itself, still_set}
use Rattle.lnt_table.proofs.said.said_by_turns.Goals as goal

pub returns-clause-unsaid : goal.returns-clause-unsaid
returns-clause-unsaid g c le k d whole answers lt h =
    c.loop-sequence.invariant.unsaid le k d whole answers (omega (arith, lt, c.loop-sequence-test.false)) h

pub loop-sequence-preserved : goal.loop-sequence-preserved
loop-sequence-preserved g c =
    let inv = c.loop-sequence.invariant in
    let one = c.in_ok-to.ensures in
    let now = c.loop-sequence.sequences in
    let i = c.loop-sequence.sequence-index in
    let left = left_of g.S.SpanSource.left in
    let inside : i < length now = omega (arith, c.loop-sequence-test.true, c.loop-sequence.auto.sequences) in
    let summed = sum_by-set left now i c.said_to.new.self c.sequence-item.result inside in
    record {
      past = at_most_trans inv.past one.past;
      upto = one.upto;
      still = still_set g.S.SpanSource.to_come _ _ _ _ _ _ c.in_ok-to.to c.args.end i c.said_to.new.self inv.still inside one.past
          (λ d whole answers upto h. one.kept whole answers upto (moved g.S.SpanSource.to_come _ _ now i d _ _ whole answers inside h));
      said = said_on g.S.SpanSource.to_come _ _ _ _ _ _ c.args.end inv.still c.in_ok-to.to inv.said
          (λ p le lt. one_says g.S.SpanSource.to_come _ _ now i c.sequence-item.result _ p inside
          (λ whole answers h. one.said whole answers h p le lt));
      unsaid = λ le k d whole answers lt h. elim (cases_lt k i) [
        | inl early ↦ inv.unsaid (at_most_trans one.past le) k d whole answers early h
        | inr here ↦ last_unsaid g.S.SpanSource.to_come _ _ _ now _ _ c.args.end inv.still k i d c.sequence-item.result c.in_ok-to.to whole
            answers (omega (arith, lt, here)) inside inv.past one.past le
            (λ back. one.unsaid back (at_most_below (at_most_trans one.past le) c.requires)) h
      ];
      most = omega (arith, summed, one.fewer.0, inv.most);
      fewer = λ below ends. elim (order_cases c.args.at c.loop-sequence.to) [
        | inl early ↦
            let fewer = inv.fewer early (at_most_below one.past ends) in
            omega (arith, summed, one.fewer.0, fewer)
        | inr late ↦
            let fewer = one.fewer.1 (at_most_below late below) ends in
            omega (arith, summed, fewer, inv.most)
      ];
    }

pub loop-sequence-init : goal.loop-sequence-init
loop-sequence-init g c = record {
  past = at_most_itself c.args.at;
  upto = below_is_at_most c.requires;
  still = still_itself g.S.SpanSource.to_come _ _ c.args.sequences.now c.args.at c.args.end;
  said = λ p le lt. absurd (not_both lt le);
  unsaid = λ le k d whole answers lt h says. absurd (omega (arith, lt));
  most = omega (arith);
  fewer = λ below ends. absurd (not_both below (at_most_itself c.args.at));
}

pub said_to-requires : goal.said_to-requires
said_to-requires g c = c.loop-sequence.invariant.upto
