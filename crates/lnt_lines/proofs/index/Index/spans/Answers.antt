use Rattle.std.proofs.Common.{subst, sym, ◌<◌, ◌^◌}
use Rattle.std.specs.List.{AllByRecursion}
use Rattle.lnt_lines.specs.Indexed.{IsIndexOf}
use Rattle.lnt_lines.proofs.CursorLemmas.{gives_all}
use Rattle.lnt_lines.proofs.index.Index.spans.Goals as goal

pub returns-clause-gives : goal.returns-clause-gives
returns-clause-gives c selection is =
    let small : AllByRecursion (λ offset. offset < 2 ^ 64) c.self.inside.units.items = rw c.deref.ensures.value at c.offsets_fit.ensures in
    rw (c.of.ensures, c.deref-2.ensures.value, c.deref-3.ensures.value, c.deref-4.ensures.value, ← c.self.view_is)
    (gives_all selection _ c.entries_in_turn.ensures c.self.invariant.numbers small
    (subst (IsIndexOf selection) (sym c.self.view_is) is))
