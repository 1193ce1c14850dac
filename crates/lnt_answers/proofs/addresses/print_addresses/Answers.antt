use Rattle.std.proofs.Common.{◌≡◌, ◌∙◌, ◌<◌, true, false, sym, length, rules, refl}
use Rattle.lnt_io.proofs.PrefixLaws.{so_stopped}
use Rattle.lnt_io.specs.Pulling.{IsAtEnd}
use Rattle.lnt_answers.proofs.AddressLemmas.{is_empty, more_before, not_empty, pulls_prefix, text_begun, text_ended, text_ended_within}
use Rattle.lnt_answers.proofs.AddressLemmas.{text_kept, text_more, text_pulled}
use Rattle.lnt_answers.proofs.AddressPrefixes.{last_stopped, text_kept_begun, text_stopped, text_unbegun}
use Rattle.lnt_answers.proofs.addresses.print_addresses.Goals.{then-not-is_empty+in_ok-answer_line, else-not-is_empty}
use Rattle.lnt_answers.proofs.addresses.print_addresses.Goals as goal

pub loop-count-init : goal.loop-count-init
loop-count-init g c = record {
  failures = refl;
  name = refl;
  more = λ more. more;
  full = search rules;
  same = c.new-asked.ensures.op;
  index = search rules;
  none = c.new-asked.ensures.lines;
  printed = text_begun c.new-asked.ensures.line c.new-asked.ensures.status;
}

pub loop-count-preserved : goal.loop-count-preserved
loop-count-preserved g c =
    let block = rw (c.loop-count.invariant.same, c.loop-count.invariant.index) at c.in_ok-answer_block.ensures.printed in
    let pulls = pulls_prefix (g.T.Source.remaining c.loop-count.lines) (g.T.Source.remaining c.pull.new.self) c.in-Ok.count
    c.loop-count.block.len c.pull.new.buf _ c.deref.result.now (search rules) c.deref.ensures.value c.in-Ok.ensures.bytes in
    record {
      failures = c.in-Ok.ensures.failures ∙ c.loop-count.invariant.failures;
      name = c.pull.ensures.name ∙ c.loop-count.invariant.name;
      more = λ more. c.loop-count.invariant.more (more_before (g.T.Source.remaining c.loop-count.lines)
          (g.T.Source.remaining c.pull.new.self) c.in-Ok.count c.pull.new.buf _ _ c.in-Ok.ensures.bound c.in-Ok.ensures.bytes
          c.in-Ok.ensures.left more);
      full = search rules;
      same = c.in_ok-answer_block.ensures.same ∙ c.loop-count.invariant.same;
      index = c.answer_block.ensures.index ∙ c.loop-count.invariant.index;
      none = c.in_ok-answer_block.ensures.none;
      printed =
          text_kept (text_more _ c.loop-count.invariant.printed pulls block c.in_ok-answer_block.ensures.line) c.in_ok-flush.ensures.bytes;
    }

pub returns-clause-printed : goal.returns-clause-printed
returns-clause-printed g c =
    let some : 0 < length c.pull.new.buf = search rules in
    let count_is : c.in-Ok.count ≡ 0 = search rules in
    let ended : IsAtEnd (g.T.Source.remaining c.pull.new.self) c.too_long.result =
    rw c.too_long.ensures (c.in-Ok.ensures.end count_is some) in
    let printed = text_pulled {now = g.T.Source.remaining c.pull.new.self} c.loop-count.invariant.printed
    (rw count_is at c.in-Ok.ensures.bytes) in
    elim c.if-not-is_empty.branch [
      | then-not-is_empty+in_ok-answer_line w ↦
          let not_so : c.is_empty.result ≡ false = search rules in
          rw (w.out-is, w.asked-is) (
          text_ended_within printed ended c.if-too_long.false
          (not_empty c.loop-count.asked.line.len c.loop-count.asked.line.items (search rules) (sym c.is_empty.ensures ∙ not_so))
          (rw (c.loop-count.invariant.same, c.loop-count.invariant.index) at w.in_ok-answer_line.ensures.printed))
      | else-not-is_empty w ↦
          let so : c.is_empty.result ≡ true = search rules in
          rw (w.out-is, w.asked-is) (
          text_ended printed ended c.if-too_long.false
          (is_empty c.loop-count.asked.line.len c.loop-count.asked.line.items (search rules) (sym c.is_empty.ensures ∙ so)))
    ]

pub returns-in_err-block-clause-begun : goal.returns-in_err-block-clause-begun
returns-in_err-block-clause-begun g c =
    so_stopped c.from_residual.result _
    (text_unbegun c.args.index.now c.args.op (g.T.Source.remaining c.args.lines.now) (g.W.Write.contents c.args.out.now))

pub returns-in_err-lookups-clause-begun : goal.returns-in_err-lookups-clause-begun
returns-in_err-lookups-clause-begun g c =
    so_stopped c.from_residual-in_err-lookups.result _
    (text_unbegun c.args.index.now c.args.op (g.T.Source.remaining c.args.lines.now) (g.W.Write.contents c.args.out.now))

pub returns-in_default-clause-begun : goal.returns-in_default-clause-begun
returns-in_default-clause-begun g c = text_kept_begun c.loop-count.invariant.printed

pub returns-in_err-answer_block-clause-begun : goal.returns-in_err-answer_block-clause-begun
returns-in_err-answer_block-clause-begun g c =
    let begun = rw (c.loop-count.invariant.same, c.loop-count.invariant.index) at c.in_err-answer_block.ensures.stopped in
    let pulls = pulls_prefix (g.T.Source.remaining c.loop-count.lines) (g.T.Source.remaining c.pull.new.self) c.in-Ok.count
    c.loop-count.block.len c.pull.new.buf _ c.deref.result.now (search rules) c.deref.ensures.value c.in-Ok.ensures.bytes in
    so_stopped c.from_residual-in_err-answer_block.result _
    (text_stopped (g.T.Source.remaining c.pull.new.self) _ c.loop-count.invariant.printed pulls begun)

pub returns-in_err-flush-clause-begun : goal.returns-in_err-flush-clause-begun
returns-in_err-flush-clause-begun g c =
    let block = rw (c.loop-count.invariant.same, c.loop-count.invariant.index) at c.in_ok-answer_block.ensures.printed in
    let pulls = pulls_prefix (g.T.Source.remaining c.loop-count.lines) (g.T.Source.remaining c.pull.new.self) c.in-Ok.count
    c.loop-count.block.len c.pull.new.buf _ c.deref.result.now (search rules) c.deref.ensures.value c.in-Ok.ensures.bytes in
    so_stopped c.from_residual-in_err-flush.result _
    (text_kept_begun (text_kept {new = g.W.Write.contents c.flush.new.self}
    (text_more {now = g.T.Source.remaining c.pull.new.self} _ c.loop-count.invariant.printed pulls block
    c.in_ok-answer_block.ensures.line) c.in_err-flush.ensures.bytes))

pub returns-then-too_long-clause-begun : goal.returns-then-too_long-clause-begun
returns-then-too_long-clause-begun g c = text_kept_begun c.loop-count.invariant.printed

pub returns-then-too_long-clause-too_long : goal.returns-then-too_long-clause-too_long
returns-then-too_long-clause-too_long g c stopped = record {
  is_found = search rules;
  more = c.loop-count.invariant.more (more_before (g.T.Source.remaining c.loop-count.lines) (g.T.Source.remaining c.pull.new.self)
      c.in-Ok.count c.pull.new.buf _ _ c.in-Ok.ensures.bound c.in-Ok.ensures.bytes c.in-Ok.ensures.left
      (g.met.T.Source.more c.pull.new.self (sym c.too_long.ensures ∙ c.if-too_long.true)));
}

pub returns-in_err-answer_line-clause-begun : goal.returns-in_err-answer_line-clause-begun
returns-in_err-answer_line-clause-begun g c =
    let some : 0 < length c.pull.new.buf = search rules in
    let count_is : c.in-Ok.count ≡ 0 = search rules in
    let ended : IsAtEnd (g.T.Source.remaining c.pull.new.self) c.too_long.result =
    rw c.too_long.ensures (c.in-Ok.ensures.end count_is some) in
    let printed = text_pulled {now = g.T.Source.remaining c.pull.new.self} c.loop-count.invariant.printed
    (rw count_is at c.in-Ok.ensures.bytes) in
    let not_so : c.is_empty.result ≡ false = search rules in
    so_stopped c.from_residual-in_err-answer_line.result _
    (last_stopped printed ended c.if-too_long.false
    (not_empty c.loop-count.asked.line.len c.loop-count.asked.line.items (search rules) (sym c.is_empty.ensures ∙ not_so))
    (rw (c.loop-count.invariant.same, c.loop-count.invariant.index) at c.in_err-answer_line.ensures.stopped))
