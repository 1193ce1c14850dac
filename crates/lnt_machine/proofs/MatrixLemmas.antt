-- The rows of a unit's program, kept while it is run.
use Rattle.std.proofs.Common.{◌≡◌, ℕ, ◌+◌, ◌^◌, ◌<◌, ◌≤◌, List, [], ◌∷◌, ◌++◌, length, take, get_or, sym, ap, subst, ◌∙◌, Option, Some}
use Rattle.std.proofs.Common.{append-nil, take_all}
use Rattle.std.specs.List.{cons_option}
use Rattle.lnt_header.specs.declared.unit_parts.UnitParts.{UnitParts}
use Rattle.lnt_header.specs.declared.op.Op.{Op}
use Rattle.lnt_header.specs.declared.op.OpView.{OpView}
use Rattle.lnt_header.specs.OpRules.{StandsFor}
use Rattle.lnt_machine.specs.declared.fault.RunFault.{RunFault}
use Rattle.lnt_machine.specs.declared.fault.RunFault.TheVariants.{LineOutOfRange}
use Rattle.lnt_machine.proofs.RanLaws.{no_row, out_taken, ran_taken, rows_taken}
use Rattle.lnt_machine.specs.Cuts.{IsCut}
use Rattle.lnt_machine.proofs.SequenceLaws.{cut_is}
use Rattle.lnt_machine.specs.Matrix.{IsRunFault, sequences, Row, Sequence}
use Rattle.lnt_machine.specs.Running.{rows_of_ops, RunsOn, RunState}
use Rattle.lnt_machine.specs.State.{LeavesRange}
use Rattle.lnt_machine.specs.Stepping.{HasRan}

-- the first k operations of the unit were run, and their rows are those of these sequences, and these
pub record MadeSoFar (unit : UnitParts) (k : ℕ) (run : RunState) (ended : List Sequence) (left : List Row) : Type 0 where
  pub ran : HasRan unit.header.numbers (take k unit.ops) run
  pub cut : IsCut (rows_of_ops unit.header.numbers (take k unit.ops)) ended left

module _ {unit : UnitParts} {items : List Op} {k : ℕ} {old : RunState} {ended : List Sequence} {left : List Row} (view : OpView) (op : Op)
    (m : MadeSoFar unit k old ended left) (same : items ≡ unit.ops) (more : k < length items) (is : op ≡ get_or items k op)
    (stands : StandsFor view op) where
  more_in : k < length unit.ops
  more_in = subst (λ (ops : List Op). k < length ops) same more

  op_in : op ≡ get_or unit.ops k op
  op_in = is ∙ ap (λ (ops : List Op). get_or ops k op) same

  made_next : {new : RunState} {made : Option Row} {ended' : List Sequence} {left' : List Row} → RunsOn view old new made → k + 1 < 2 ^ 64
      → ((all : List Row) → IsCut all ended left → IsCut (all ++ cons_option made []) ended' left')
      → MadeSoFar unit (k + 1) new ended' left'
  made_next {new} {made} {ended'} {left'} on few cuts = record {
    ran = ran_taken unit k view op m.ran more_in op_in stands on few;
    cut = subst (λ (rows : List Row). IsCut rows ended' left') (rows_taken unit k view op m.ran more_in op_in stands on)
        (cuts (rows_of_ops unit.header.numbers (take k unit.ops)) m.cut);
  }

  -- an operation without a row
  pub made_quiet : {new : RunState} {made : Option Row} → RunsOn view old new made → k + 1 < 2 ^ 64
      → ((row : Row) → made ≡ Some row → ⊥) → MadeSoFar unit (k + 1) new ended left
  made_quiet {new} {made} on few none =
      made_next on few (λ all cut. subst (λ (rows : List Row). IsCut rows ended left)
      (sym (ap (λ (rows : List Row). all ++ rows) (no_row made [] none) ∙ append-nil all)) cut)

  -- an operation and its row
  pub made_row : {new : RunState} {made : Option Row} {row : Row} {ended' : List Sequence} {left' : List Row} → RunsOn view old new made
      → k + 1 < 2 ^ 64 → made ≡ Some row → ((all : List Row) → IsCut all ended left → IsCut (all ++ row ∷ []) ended' left')
      → MadeSoFar unit (k + 1) new ended' left'
  made_row {new} on few some cuts = made_next (subst (RunsOn view old new) some on) few cuts

  -- an operation that leads out of the range of lines
  pub made_out : {fault : RunFault} → LeavesRange view old.machine → fault ≡ LineOutOfRange old.machine.count → IsRunFault unit fault
  made_out leaves out = subst (IsRunFault unit) (sym out) (out_taken unit k view op m.ran more_in op_in stands leaves)

pub made_sequences : (unit : UnitParts) (k : ℕ) (run : RunState) (ended : List Sequence) (left : List Row)
    → MadeSoFar unit k run ended left → length unit.ops ≤ k → ended ≡ sequences unit
made_sequences unit k run ended left m all =
    sym (cut_is (rows_of_ops unit.header.numbers unit.ops) left ended
    (subst (λ (ops : List Op). IsCut (rows_of_ops unit.header.numbers ops) ended left) (take_all k unit.ops all) m.cut))
