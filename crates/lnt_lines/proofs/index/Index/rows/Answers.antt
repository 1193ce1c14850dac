use Rattle.std.proofs.Common.{subst, sym, List, ℕ}
use Rattle.lnt_machine.specs.Walking.{KeptProgram}
use Rattle.lnt_lines.specs.Indexed.{Indexed, IsSequenceIn}
use Rattle.lnt_lines.proofs.index.Index.rows.Goals as goal

pub returns : goal.returns
returns c rows is =
    let programs : List KeptProgram = c.self.inside.programs.items in
    let here : IsSequenceIn c.self.inside.units.items programs c.args.id rows =
    subst (λ (i : Indexed). IsSequenceIn i.units i.programs c.args.id rows) (sym c.self.view_is) is in
    c.rows_of.ensures.rows rows
    (subst (λ (us : List ℕ). IsSequenceIn us c.deref-2.result.now c.args.id rows) (sym c.deref.ensures.value)
    (subst (λ (ks : List KeptProgram). IsSequenceIn c.self.inside.units.items ks c.args.id rows) (sym c.deref-2.ensures.value) here))
