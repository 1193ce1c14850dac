-- The operations of a unit in a buffer, given one by one: what the bytes are, once all are given, or one is refused.
use Rattle.std.proofs.Common.{◌≡◌, List, [], ◌∷◌, ◌++◌, false}
use Rattle.lnt_wire.specs.declared.fault.Fault.{Fault}
use Rattle.lnt_header.specs.declared.op.Op.{Op}
use Rattle.lnt_header.specs.declared.op.OpView.{OpView}
use Rattle.lnt_header.specs.HeaderRules.{IsHeader}
use Rattle.lnt_header.specs.OpRules.{StandsFor}
use Rattle.lnt_ops.proofs.ProgramLaws.{ops_none, walk_more, walk_done, walk_broken}
use Rattle.lnt_ops.specs.Walks.{Walk, Ends, GivesOperation, Fails}
use Rattle.lnt_unit.specs.BrokenUnits.{BrokenUnit}
use Rattle.lnt_unit.proofs.BrokenLaws.{ops_broken}
use Rattle.lnt_unit.proofs.UnitLaws.{unit_found}
use Rattle.lnt_unit.specs.UnitBytes.{UnitBytesIn}
use Rattle.lnt_unit.specs.Views.{View, IsUnitView, with_ops}
use Rattle.lnt_unit.specs.ConversionSteps.{HasGiven}

pub given_none : (view : View) (walk : Walk) → walk.numbers ≡ view.header.numbers → walk.failed ≡ false → walk.at.place ≡ view.place
    → walk.at.rest ≡ view.program → walk.at.order ≡ view.header.numbers.order → HasGiven view [] walk
given_none view walk same going place rest order =
    record { header_is = same; going = going; so = ops_none view.header.numbers view.place view.program walk.at place rest order }

pub given_more : (view : View) (ops : List Op) (op : Op) (item : OpView) (old new : Walk) → HasGiven view ops old
    → GivesOperation item old new → StandsFor item op → HasGiven view (ops ++ op ∷ []) new
given_more view ops op item old new given step stands =
    let more = walk_more view.header.numbers view.place view.program ops op item old new given.header_is given.so step stands in
    record { header_is = more.0; going = more.1; so = more.2 }

-- all were given: the bytes are those of the unit of these operations
pub given_all : (view : View) (ops : List Op) (old new : Walk) → IsUnitView view → HasGiven view ops old → Ends old new
    → UnitBytesIn view.unit.order (with_ops view ops) view.unit.bytes
given_all view ops old new is given ends = unit_found view.unit.order (with_ops view ops) view.program view.unit.bytes is.spelled
    (walk_done view.header.numbers view.place view.program ops old new given.going given.so ends)

-- one was refused: the bytes are those of no unit
pub given_broken : (view : View) (ops : List Op) (fault : Fault) (old new : Walk) → IsHeader view.header → IsUnitView view
    → HasGiven view ops old → Fails fault old new → BrokenUnit view.unit.order fault view.unit.offset view.unit.bytes
given_broken view ops fault old new header is given fails =
    ops_broken view.unit.order view.header view.program view.unit.bytes fault view.unit.offset view.place is.spelled is.end
    (walk_broken view.header.numbers view.place view.program ops fault old new header.numbers given.header_is given.so fails)
