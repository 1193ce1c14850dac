use Rattle.std.proofs.Common.{◌≡◌, ◌∙◌, ◌<◌, ap, get_or, length, subst, sym, List, arith}
use Rattle.std.proofs.lemmas.Grind.{elements}
use Rattle.lnt_machine.specs.Walking.{KeptProgram}
use Rattle.lnt_files.specs.Tables.{AreUsableTables}
use Rattle.lnt_lines.specs.Indexed.{Indexed}
use Rattle.lnt_lines.proofs.IndexLemmas.{usable_at}
use Rattle.lnt_lines.proofs.index.Index.header_of.Goals as goal

pub returns-clause-usable : goal.returns-clause-usable
returns-clause-usable c =
    let line = c.self.inside.strings.line.now in
    let general = c.self.inside.strings.general.now in
    let programs = c.self.inside.programs.items in
    let is = c.self.invariant.index_is in
    let kept : KeptProgram = c.in_ok-program.program.now in
    let found = c.in_ok-program.ensures.lookup.3 in
    let few : c.in_ok-place.place < length programs =
    subst (λ (ks : List KeptProgram). c.in_ok-place.place < length ks) c.deref-2.ensures.value found.0 in
    let at : kept ≡ get_or programs c.in_ok-place.place kept =
    found.1 kept ∙ ap (λ (ks : List KeptProgram). get_or ks c.in_ok-place.place kept) c.deref-2.ensures.value in
    subst (λ (i : Indexed). AreUsableTables i.line i.general c.header.result) c.self.view_is
    (subst (AreUsableTables line general) (ap (λ (k : KeptProgram). k.header) (sym at) ∙ sym c.header.ensures)
    (usable_at line general c.self.invariant.selection.units programs c.in_ok-place.place kept is.programs is.tables few))

pub returns-clause-header : goal.returns-clause-header
returns-clause-header c = grind (arith, elements)

pub returns-in_err-program-clause-header : goal.returns-in_err-program-clause-header
returns-in_err-program-clause-header c = grind (arith, elements)
