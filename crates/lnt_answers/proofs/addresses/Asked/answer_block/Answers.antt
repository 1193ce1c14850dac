use Rattle.std.proofs.Common.{◌+◌, ◌++◌, ◌∙◌, refl, sym, subst, rules, take, List, ℕ}
use Rattle.lnt_io.proofs.PrefixLaws.{so_stopped}
use Rattle.lnt_answers.specs.AddressBlocks.{AreFirstPrinted}
use Rattle.lnt_answers.proofs.AddressPrefixes.{first_kept, first_stopped}
use Rattle.lnt_answers.proofs.AddressLemmas.{first_emptied, first_joined, first_more, first_none, first_sent, none_in, none_in_joined}
use Rattle.lnt_answers.proofs.CommaLemmas.{rest_after}
use Rattle.lnt_answers.proofs.addresses.Asked.answer_block.Goals as goal

pub loop-end-init : goal.loop-end-init
loop-end-init g c = record {
  same = refl;
  index = refl;
  none = c.requires.none;
  shorter = search rules;
  whole = c.requires.line;
  printed = first_none _ _ _;
}

pub overflow_add-end : goal.overflow_add-end
overflow_add-end g c =
    let before = c.loop-end.invariant.shorter in
    let within = c.in-Some.ensures.within in
    search rules

pub loop-end-preserved : goal.loop-end-preserved
loop-end-preserved g c =
    let before = c.loop-end.invariant in
    let rest = c.loop-end.rest.now in
    let end = c.in-Some.end in
    let at = rw c.in-Some.is at c.place_of.ensures.cut in
    let ended = rw (before.same, before.index) at c.in_ok-end_line.ensures.printed in
    let more = rw (c.in_ok-end_line.ensures.same, before.same, c.end_line.ensures.index, before.index) at c.in_ok-rest.ensures.printed in
    let made = first_joined c.loop-end.self.line.items rest (take end rest) before.whole at ended (rest_after rest (end + 1)) more in
    let shorter = c.in_ok-rest.ensures.shorter in
    let none = c.in_ok-end_line.ensures.begun in
    record {
      same = c.in_ok-rest.ensures.same ∙ c.in_ok-end_line.ensures.same ∙ before.same;
      index = c.put_lines.ensures.index ∙ c.end_line.ensures.index ∙ before.index;
      none = c.in_ok-send.ensures.empty;
      shorter = search rules;
      whole = none_in 10 c.end_line.new.self.line.items none;
      printed = first_emptied (first_more before.printed (first_sent made before.none c.in_ok-send.ensures.whole)) none;
    }

pub returns-clause-printed : goal.returns-clause-printed
returns-clause-printed g c =
    subst (λ (z : List ℕ). AreFirstPrinted c.args.lookups.now c.args.self.now.answers.op (c.args.self.now.line.items ++ c.args.block.now) z
    (g.W.Write.contents c.args.out.now) (g.W.Write.contents c.loop-end.out) c.args.self.now.answers.status c.loop-end.self.answers.status)
    (sym c.in_ok-extend_from_slice.ensures.items) c.loop-end.invariant.printed

pub returns-clause-line : goal.returns-clause-line
returns-clause-line g c =
    none_in_joined 10 c.loop-end.self.line.items c.loop-end.rest.now c.extend_from_slice.new.self.items c.loop-end.invariant.whole
    (rw c.in_default.is at c.place_of.ensures.cut) c.in_ok-extend_from_slice.ensures.items

pub returns-in_err-end_line-clause-stopped : goal.returns-in_err-end_line-clause-stopped
returns-in_err-end_line-clause-stopped g c = so_stopped c.from_residual.result _ (first_kept c.loop-end.invariant.printed)

pub returns-in_err-rest-clause-stopped : goal.returns-in_err-rest-clause-stopped
returns-in_err-rest-clause-stopped g c =
    so_stopped c.from_residual-in_err-rest.result _ (first_kept c.loop-end.invariant.printed)

pub returns-in_err-send-clause-stopped : goal.returns-in_err-send-clause-stopped
returns-in_err-send-clause-stopped g c =
    let before = c.loop-end.invariant in
    let rest = c.loop-end.rest.now in
    let end = c.in-Some.end in
    let at = rw c.in-Some.is at c.place_of.ensures.cut in
    let ended = rw (before.same, before.index) at c.in_ok-end_line.ensures.printed in
    let more = rw (c.in_ok-end_line.ensures.same, before.same, c.end_line.ensures.index, before.index) at c.in_ok-rest.ensures.printed in
    let made = first_joined c.loop-end.self.line.items rest (take end rest) before.whole at ended (rest_after rest (end + 1)) more in
    so_stopped c.from_residual-in_err-send.result _
    (first_stopped {new = g.W.Write.contents c.send.new.out} before.printed made before.none c.in_err-send.ensures.prefix)

pub returns-in_err-extend_from_slice-clause-stopped : goal.returns-in_err-extend_from_slice-clause-stopped
returns-in_err-extend_from_slice-clause-stopped g c =
    so_stopped c.from_residual-in_err-extend_from_slice.result _ (first_kept c.loop-end.invariant.printed)
