use Rattle.std.proofs.Common.{◌<◌, ◌∙◌, ap, arith, length, sym, subst, [], ◌∷◌}
use Rattle.std.proofs.lemmas.List.{get_or_default, length-append}
use Rattle.lnt_sequences.specs.declared.extent.Extent.{Extent}
use Rattle.lnt_sequences.specs.Sequences.{answer_in}
use Rattle.lnt_table.specs.Asked.{AreSequencesFrom, IsWholeSource}
use Rattle.lnt_table.proofs.CopiesLemmas.{one_pushed, spans_alone}
use Rattle.lnt_table.proofs.copies.Copies.begin.Goals as goal

pub loop-place-preserved : goal.loop-place-preserved
loop-place-preserved c =
    let inv = c.loop-place.invariant in
    let extents = c.args.self.now.group.extents.now in
    let place = c.loop-place.place in
    let inside : place < length extents = omega (arith, c.loop-place-test.true, c.requires.group.within) in
    record {
      count = omega (arith, inv.count, ap length c.in_ok-push.ensures.items, length-append c.loop-place.sequences.items (c.of.result ∷ []));
      each = λ selection is. subst (AreSequencesFrom IsWholeSource selection extents c.args.self.now.group.first)
          (sym c.in_ok-push.ensures.items)
          (one_pushed selection extents c.args.self.now.group.first place c.loop-place.sequences.items c.of.result (inv.each selection is)
          inv.count (λ e placed contained same at.
          let given = c.spans_of.ensures selection is placed contained
          (same ∙ ap (λ (x : Extent). x.id) (get_or_default extents place e _ inside)) in
          c.of.ensures given.spans at (answer_in (placed ∷ [])) given.to_come given.in_order (spans_alone placed c.spans_of.result given)));
    }
