-- A program that is run, and an operation more.
use Rattle.std.proofs.Common.{◌≡◌, Bool, List, ◌∷◌, refl, ap, subst, ◌∙◌, Option, Some, None}
use Rattle.lnt_header.specs.declared.numbers.NumberParts.{NumberParts}
use Rattle.lnt_header.specs.declared.op.Op.{Op}
use Rattle.lnt_header.specs.declared.op.Op.TheVariants.{Special, Copy, EndSequence}
use Rattle.lnt_header.specs.declared.op.OpView.{OpView}
use Rattle.lnt_machine.specs.Matrix.{row_made, Row}
use Rattle.lnt_machine.specs.Running.{leaves_open, open_with, RunsOn, RunState}
use Rattle.lnt_machine.specs.State.{MachineState, Steps}

-- the row of one more operation tells whether rows are left open with it
open_more : (h : NumberParts) (back : List Op) (op : Op) → open_with (leaves_open back) (row_made h back op) ≡ leaves_open (op ∷ back)
open_more h back Copy = refl
open_more h back (Special c) = refl
open_more h back EndSequence = refl
open_more h back op = refl

-- an operation without a row leaves open what was open
pub open_quiet : (before : Bool) (made : Option Row) → ((row : Row) → made ≡ Some row → ⊥) → before ≡ open_with before made
open_quiet before None none = refl
open_quiet before (Some row) none = absurd (none row refl)

abbrev state : MachineState → Bool → RunState
state machine is_open = record { machine = machine; is_open = is_open }

-- the machine stepped, and the row tells whether rows are left open
pub runs_on : (view : OpView) (run : RunState) (machine machine' : MachineState) (before after : Bool) (row : Option Row)
    → state machine before ≡ run → Steps view machine machine' row → after ≡ open_with before row
    → RunsOn view run (state machine' after) row
runs_on view run machine machine' before after row e steps open_is =
    subst (λ (old : RunState). RunsOn view old (state machine' after) row) e (record {
      machine = steps;
      open_is = open_is;
      done = λ back op has stands. record {
        machine = steps.done.stands back op has.machine stands;
        open_is = open_is ∙ ap (λ (was : Bool). open_with was row) has.open_is
            ∙ ap (open_with (leaves_open back)) (steps.done.row_is back op has.machine stands) ∙ open_more machine.numbers back op;
      };
    })
