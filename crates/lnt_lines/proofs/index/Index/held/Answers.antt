use Rattle.std.proofs.Common.{subst, sym, List}
use Rattle.lnt_sequences.specs.declared.extent.Extent.{Extent}
use Rattle.lnt_sequences.specs.Extents.{IsHolderAt, NoneHolds}
use Rattle.lnt_lines.specs.Indexed.{Answers, Indexed, IsIndexOf}
use Rattle.lnt_lines.proofs.IndexLemmas.{found_none, held_answers}
use Rattle.lnt_lines.proofs.index.Index.held.Goals as goal

pub returns-in_err-place-clause-none : goal.returns-in_err-place-clause-none
returns-in_err-place-clause-none c = rw c.from_residual.ensures (λ selection is.
    found_none selection _ c.args.position c.holder_answers.ensures (subst (IsIndexOf selection) (sym c.self.view_is) is)
    (subst (λ (es : List Extent). NoneHolds es c.args.position) c.deref.ensures.value c.in_err-place.ensures.found))

pub returns-clause-answers : goal.returns-clause-answers
returns-clause-answers c selection is =
    let holder : IsHolderAt c.self.inside.entries.items c.args.position c.in_ok-place.place =
    subst (λ (es : List Extent). IsHolderAt es c.args.position c.in_ok-place.place) c.deref.ensures.value c.in_ok-place.ensures.found in
    subst (λ (i : Indexed). Answers selection i c.args.position c.index.result.now.id) c.self.view_is
    (held_answers selection _ c.args.position c.in_ok-place.place c.index.result.now c.holder_answers.ensures
    (subst (IsIndexOf selection) (sym c.self.view_is) is) holder c.index.ensures)
