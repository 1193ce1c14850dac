-- GivesOperation of a walk over operations.
use Rattle.std.proofs.Common.{◌≡◌, ◌<◌, true, false, length, refl, ◌∙◌, inl, inr, arith}
use Rattle.lnt_wire.specs.Reading.{At, Refuses}
use Rattle.lnt_wire.specs.declared.fault.Fault.{Fault}
use Rattle.lnt_wire.specs.declared.format.Order.{Order}
use Rattle.lnt_header.specs.declared.numbers.NumberParts.{NumberParts}
use Rattle.lnt_header.specs.declared.op.OpView.{OpView}
use Rattle.lnt_ops.proofs.ProgramLaws.{op_long}
use Rattle.lnt_ops.specs.OpBytes.{OpBytes}
use Rattle.lnt_ops.specs.OpFaults.{IsOpFault, IsFirstFault}
use Rattle.lnt_ops.specs.OpSteps.{GivesOp}
use Rattle.lnt_ops.specs.Walks.{Walk, Ends, GivesOperation, Fails}
use Rattle.std.proofs.lemmas.Grind.{common_steps}

pub ends_failed : (walk : Walk) → walk.failed ≡ true → Ends walk walk
ends_failed walk e = record { ended = inl e; unchanged = refl }

pub ends_empty : (walk : Walk) → length walk.at.rest ≡ 0 → Ends walk walk
ends_empty walk e = record { ended = inr e; unchanged = refl }

pub steps_on : (view : OpView) (old new : Walk) → old.failed ≡ false → new.failed ≡ false → new.numbers ≡ old.numbers
    → GivesOp old.numbers view old.at new.at → GivesOperation view old new
steps_on view old new going goes_on header g = grind (arith, common_steps, op_long)

pub fails_here : (fault : Fault) (old new : Walk) → old.failed ≡ false → new.failed ≡ true → new.numbers ≡ old.numbers → new.at ≡ old.at
    → 0 < length old.at.rest → Refuses (IsOpFault old.numbers.address_size) (OpBytes old.numbers) old.at fault
    → Refuses (IsFirstFault old.numbers) (OpBytes old.numbers) old.at fault → Fails fault old new
fails_here fault old new going failed header at some r t = grind (arith, common_steps)

-- an operation leaves the order of the bytes
pub order_kept : (h : NumberParts) (view : OpView) (old new : At) (order : Order) → GivesOp h view old new → old.order ≡ order
    → new.order ≡ order
order_kept h view old new order g e = g.reads.order ∙ e

-- The lemmas of the iterator.
pub ruleset walk_lemmas = (ends_failed, ends_empty, steps_on, fails_here, order_kept)
