use Rattle.std.proofs.Common.{◌≡◌, ◌≢◌, ◌∙◌, ap, drop, length, List, sym, subst, All, AllPairs, IsPermutation}
use Rattle.std.proofs.lemmas.List.Sorted.{IsPermutation-trans, length_permutation}
use Rattle.lnt_spans.specs.Positions.{IsBelow}
use Rattle.lnt_sequences.specs.Extents.{extents_of, Extent}
use Rattle.lnt_sequences.specs.Overlaps.{ExtentsDisjoint, ExtentsOverlap}
use Rattle.lnt_sequences.specs.Sequences.{kept_of}
use Rattle.lnt_sequences.proofs.ExtentLemmas.{extents_ids}
use Rattle.lnt_sequences.proofs.KeptLemmas.{ids_kept, kept_apart, kept_are, kept_overlap, kept_some, written_back}
use Rattle.lnt_sequences.proofs.collected.Collected.entries.Goals as goal

pub kept-extents-requires : goal.kept-extents-requires
kept-extents-requires c = subst (λ (es : List Extent). AllPairs (λ (a : Extent) (b : Extent). a.id ≢ b.id) es) (sym c.requires.1.extents)
    (extents_ids c.requires.0 c.requires.2)

pub first_overlap-requires-clause-some : goal.first_overlap-requires-clause-some
first_overlap-requires-clause-some c =
    subst (λ (es : List Extent). All (λ (e : Extent). IsBelow e.low e.high) es) (sym c.deref_mut.ensures.value)
    (kept_some (kept_of c.args.skip_copies c.requires.0) c.kept-extents.result.items
    (kept_are c.args.skip_copies c.requires.0 c.args.self.extents.items c.kept-extents.result.items c.requires.1.extents
    c.kept-extents.ensures))

pub first_overlap-requires-clause-ids : goal.first_overlap-requires-clause-ids
first_overlap-requires-clause-ids c =
    subst (λ (es : List Extent). AllPairs (λ (a : Extent) (b : Extent). a.id ≢ b.id) es) (sym c.deref_mut.ensures.value)
    (ids_kept c.args.skip_copies c.requires.0 c.args.self.extents.items c.kept-extents.result.items c.requires.1.extents c.requires.2
    c.kept-extents.ensures)

pub returns-in-Some-clause-overlap : goal.returns-in-Some-clause-overlap
returns-in-Some-clause-overlap c = λ ss collects. kept_overlap (kept_of c.args.skip_copies ss) c.kept-extents.result.items c.in-Some.overlap
    (kept_are c.args.skip_copies ss c.args.self.extents.items c.kept-extents.result.items collects.extents c.kept-extents.ensures)
    (subst (λ (es : List Extent). ExtentsOverlap es c.in-Some.overlap) c.deref_mut.ensures.value c.in-Some.ensures.overlap)

pub returns-in-None-clause-apart : goal.returns-in-None-clause-apart
returns-in-None-clause-apart c = λ ss collects. kept_apart (kept_of c.args.skip_copies ss) c.kept-extents.result.items
    (kept_are c.args.skip_copies ss c.args.self.extents.items c.kept-extents.result.items collects.extents c.kept-extents.ensures)
    (subst (λ (es : List Extent). AllPairs ExtentsDisjoint es) c.deref_mut.ensures.value c.in-None.ensures.apart)

pub returns-in-None-clause-entries : goal.returns-in-None-clause-entries
returns-in-None-clause-entries c = λ ss collects.
    let kept = c.kept-extents.result.items in
    let sorted = c.first_overlap.new.extents in
    let permuted : IsPermutation kept sorted = subst (λ (es : List Extent). IsPermutation es sorted) c.deref_mut.ensures.value
    c.in-None.ensures.permutation in
    let size : c.kept-extents.result.len ≡ length sorted = sym c.deref_mut.ensures.len ∙ ap length c.deref_mut.ensures.value
    ∙ sym (length_permutation kept sorted permuted) in
    subst (IsPermutation (extents_of (kept_of c.args.skip_copies ss)))
    (sym (written_back c.kept-extents.result.len sorted (drop (length sorted) kept) size))
    (IsPermutation-trans (extents_of (kept_of c.args.skip_copies ss)) kept sorted
    (kept_are c.args.skip_copies ss c.args.self.extents.items kept collects.extents c.kept-extents.ensures) permuted)
