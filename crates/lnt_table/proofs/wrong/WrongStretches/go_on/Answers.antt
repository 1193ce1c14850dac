use Rattle.std.proofs.Common.{◌∙◌, arith, [], ◌∷◌, ◌++◌, ap, map, option_map, Some, subst, sym}
use Rattle.lnt_spans.specs.declared.answer.Answer.{Answer}
use Rattle.lnt_spans.specs.declared.position.Position.{Position}
use Rattle.lnt_spans.specs.Positions.{IsAtMost}
use Rattle.lnt_spans.proofs.PositionLaws.{below_is_at_most}
use Rattle.lnt_sequences.specs.Copies.{IsAnyAnswer}
use Rattle.lnt_sequences.specs.Sequences.{line_answer}
use Rattle.lnt_table.specs.WrongStretches.{AreWrongBelow}
use Rattle.lnt_table.proofs.CopiesLemmas.{ready_from_whole, whole_from_ready}
use Rattle.lnt_table.proofs.AskedLemmas.{all_given, kept_said, next_found}
use Rattle.lnt_table.proofs.wrong.WrongStretches.go_on.Goals as goal

pub returns-in_default-clause-found : goal.returns-in_default-clause-found
returns-in_default-clause-found g c selection f f' list h =
    let told = rw c.in_default.is at c.in_ok-ended.ensures.given f f' h.given h.so in (
      all_given c.args.self.now.scope _ f f' (kept_said _ selection f h.same) (map g.K.KeptStretches.value_of h.given) _
          c.args.self.now.from c.args.self.now.end (map g.K.KeptStretches.value_of list) h.are c.requires.passed told.0,
      told.1,
    )

pub returns-clause-found : goal.returns-clause-found
returns-clause-found g c selection f f' list h =
    let told = rw c.in-Some.is at c.in_ok-ended.ensures.given f f' h.given h.so in
    let is_low = rw c.in-Some.is at c.in_ok-ended.ensures.low in
    let ended = c.in-Some.ended in
    let tell = c.in_ok-ended.ensures.tell in
    record {
      is_index = rw c.pass_to.ensures.index h.is_index;
      live = rw c.pass_to.ensures.index h.live;
      same = λ p. h.same p
          ∙ ap (λ (t : Answer → g.K.KeptStretches.Told). option_map t (line_answer selection p)) (sym tell);
      given = h.given ++ ended.difference ∷ [];
      so = told.0;
      are = subst (λ (t : Answer → g.K.KeptStretches.Told). AreWrongBelow c.args.self.now.scope (IsAnyAnswer t selection) f f'
          (map g.K.KeptStretches.value_of (h.given ++ ended.difference ∷ [])) (Some (g.K.KeptStretches.value_of ended.difference))
          ended.low ended.end (map g.K.KeptStretches.value_of list)) (sym tell)
          (next_found g.K.KeptStretches.value_of c.args.self.now.scope _ f f' h.given c.args.self.now.hand c.args.self.now.from
          c.args.self.now.end list h.are (kept_said _ selection f h.same) c.requires.passed ended.difference ended.low ended.end is_low
          told.1 told.2);
      ready = ready_from_whole (g.K.KeptStretches.tell c.next_kept.new.self) selection c.pass_to.new.self _ ended.low ended.end
          (c.pass_to.ensures.ready selection
          (whole_from_ready (g.K.KeptStretches.tell c.args.self.now.kept) selection c.args.self.now.copies _
          c.args.self.now.from c.args.self.now.end h.ready))
          (subst (λ (q : Position). IsAtMost q ended.end) (sym is_low) (below_is_at_most told.2.lasts.past));
    }

pub returns-clause-fewer : goal.returns-clause-fewer
returns-clause-fewer g c more =
    let fewer = rw c.in-Some.is at c.in_ok-ended.ensures.fewer in
    omega (arith, fewer, c.apart.ensures)
