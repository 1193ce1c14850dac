use Rattle.std.proofs.Common.{rules, ◌≡◌, ◌∙◌, ap, drop, length, subst, sym, List, IsPermutation}
use Rattle.std.specs.List.{dedup}
use Rattle.std.proofs.lemmas.Fn.{dedup_same}
use Rattle.std.proofs.lemmas.List.Sorted.{length_permutation}
use Rattle.lnt_sequences.specs.declared.extent.Extent.{Extent}
use Rattle.lnt_sequences.specs.Overlaps.{end_alike}
use Rattle.lnt_sequences.proofs.CopyLemmas.{kept_of_gathered}
use Rattle.lnt_sequences.proofs.KeptLemmas.{written_back}
use Rattle.lnt_sequences.proofs.extent.kept.Goals as goal

pub returns : goal.returns
returns c =
    let old = c.args.extents.items in
    let sorted = c.gather.new.extents in
    let permuted : IsPermutation old sorted = subst (λ (es : List Extent). IsPermutation es sorted) c.deref_mut.ensures.value
    c.gather.ensures.permutation in
    let size : c.args.extents.len ≡ length sorted = sym c.deref_mut.ensures.len ∙ ap length c.deref_mut.ensures.value
    ∙ sym (length_permutation old sorted permuted) in
    rw c.if-not-skip_copies.false
    (kept_of_gathered old sorted c.dedup_by.new.self.items c.requires permuted c.gather.ensures.gathered
    (dedup_same _ end_alike _ (λ x y b f' x' y' k. search rules) _ _ c.dedup_by.ensures.filtered
    ∙ ap (λ (es : List Extent). dedup end_alike es) (written_back c.args.extents.len sorted (drop (length sorted) old) size)))
