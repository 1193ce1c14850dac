use Rattle.lnt_compare.proofs.StreamLaws.{all_taken}
use Rattle.lnt_answers.proofs.StretchLemmas.{all_begun}
use Rattle.lnt_answers.proofs.wrong.print_wrong.Goals as goal

pub returns-in-Some-clause-begun : goal.returns-in-Some-clause-begun
returns-in-Some-clause-begun g c =
    all_begun _ c.print_numbers.result c.args.report.any_copy c.args.index.now _ _ c.in_ok-text.text.items c.requires.copies
    (λ P is. all_taken _ _ _ _ c.in_ok-window.window c.in_ok-text.text.items P c.in_ok-window.ensures.taken c.in_ok-text.ensures.ok is)
    (rw c.deref-in-Some.ensures.value at c.print_numbers.ensures.begun)

pub print_paths-requires-clause-unnumbered : goal.print_paths-requires-clause-unnumbered
print_paths-requires-clause-unnumbered g c =
    let none = rw c.in_default.is at c.in_ok-version.ensures in
    rw (c.deref-2.ensures.value, ← c.deref.ensures.value) none

pub returns-clause-begun : goal.returns-clause-begun
returns-clause-begun g c =
    all_begun _ c.print_paths.result c.args.report.any_copy c.args.index.now _ _ c.in_ok-text.text.items c.requires.copies
    (λ P is. all_taken _ _ _ _ c.in_ok-window.window c.in_ok-text.text.items P c.in_ok-window.ensures.taken c.in_ok-text.ensures.ok is)
    (rw c.deref-2.ensures.value at c.print_paths.ensures.begun)
