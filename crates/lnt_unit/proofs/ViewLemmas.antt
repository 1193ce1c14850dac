-- Units in a buffer: their headers, and their operations, which are counted.
use Rattle.std.proofs.Common.{◌≡◌, ◌≢◌, ℕ, ◌+◌, ◌^◌, ◌<◌, ◌≤◌, List, [], ◌∷◌, ◌++◌, length, refl, false, ap, arith, length-append}
use Rattle.lnt_wire.specs.FrameBytes.{frame_bytes}
use Rattle.lnt_wire.specs.declared.fault.Fault.{Fault}
use Rattle.lnt_wire.specs.declared.fault.Reason.TheVariants.{Memory}
use Rattle.lnt_wire.specs.declared.format.Order.{Order}
use Rattle.lnt_wire.specs.declared.frame.Frame.{Frame}
use Rattle.lnt_header_bytes.specs.Broken.{BrokenHeader}
use Rattle.lnt_header.specs.declared.op.Op.{Op}
use Rattle.lnt_header.specs.declared.op.OpView.{OpView}
use Rattle.lnt_ops.specs.Walks.{Walk, Ends, GivesOperation}
use Rattle.lnt_unit.proofs.ViewLaws.{given_none, given_more, given_all}
use Rattle.lnt_unit.specs.Views.{View, IsUnitView, HasCount}
use Rattle.lnt_unit.specs.ConversionSteps.{HasGiven}
use Rattle.std.proofs.lemmas.Grind.{common_steps}

-- ---- the header

-- no header with a program begins the bytes of a buffer, since none begins their frame
pub no_header : (order other : Order) (offset : ℕ) (bytes : List ℕ) (frame : Frame) (fault : Fault) → other ≡ order → frame.offset ≡ offset
    → frame_bytes order frame.format frame.body.now ≡ bytes
    → (fault.reason ≢ Memory → BrokenHeader other fault frame.offset (frame_bytes other frame.format frame.body.now))
    → fault.reason ≢ Memory → BrokenHeader order fault offset bytes
no_header order other offset bytes frame fault same here is broken some = rw (← is, ← here, ← same) (broken some)

-- ---- operations

-- So many operations were given, each of a byte or more.
pub record CountedTo (view : View) (count : ℕ) (walk : Walk) : Type 0 where
  pub ops : List Op
  pub given : HasGiven view ops walk
  pub count_is : count ≡ length ops
  pub few : count + length walk.at.rest ≤ length view.program

pub counted_none : (view : View) (walk : Walk) → walk.numbers ≡ view.header.numbers → walk.failed ≡ false → walk.at.place ≡ view.place
    → walk.at.rest ≡ view.program → walk.at.order ≡ view.header.numbers.order → CountedTo view 0 walk
counted_none view walk same going place rest order =
    record { ops = []; given = given_none view walk same going place rest order; count_is = refl; few = omega (arith, ap length rest) }

pub counted_more : (view : View) (count : ℕ) (item : OpView) (old new : Walk) → CountedTo view count old → GivesOperation item old new
    → CountedTo view (count + 1) new
counted_more view count item old new so step =
    let op = step.gives.op in
    record {
      ops = so.ops ++ op ∷ [];
      given = given_more view so.ops op item old new so.given step step.gives.stands;
      count_is = omega (arith, so.count_is, length-append so.ops (op ∷ []));
      few = omega (arith, so.few, step.shorter);
    }

pub counted_all : (view : View) (count : ℕ) (old new : Walk) → IsUnitView view → CountedTo view count old → Ends old new
    → HasCount view count
counted_all view count old new is so ends = grind (arith, common_steps, given_all)

pub counted_room : (view : View) (count : ℕ) (item : OpView) (old new : Walk) → CountedTo view count old → GivesOperation item old new
    → length view.program < 2 ^ 64 → count + 1 < 2 ^ 64
counted_room view count item old new so step lt = omega (arith, so.few, step.shorter, lt)

-- The lemmas of `operation_count`.
pub ruleset operation_count_lemmas = (counted_none, counted_more, counted_all, counted_room)
