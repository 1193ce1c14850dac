use Rattle.std.proofs.Common.{List, subst, sym, All}
use Rattle.lnt_machine.specs.Walking.{KeptProgram}
use Rattle.lnt_files.specs.Tables.{AreUsableTables}
use Rattle.lnt_lines.proofs.IndexLemmas.{usable_at}
use Rattle.lnt_lines.proofs.index.Index.files.Goals as goal

pub files_of-requires : goal.files_of-requires
files_of-requires c =
    let line = c.self.inside.strings.line.now in
    let general = c.self.inside.strings.general.now in
    let is = c.self.invariant.index_is in
    subst (λ (ks : List KeptProgram). All (λ (kept : KeptProgram). AreUsableTables line general kept.header) ks) (sym c.deref.ensures.value)
    (λ k d few. usable_at line general c.self.invariant.selection.units c.self.inside.programs.items k d is.programs is.tables few)

pub returns : goal.returns
returns c =
    rw (← c.self.view_is, ← c.deref.ensures.value) c.files_of.ensures
