-- Refusals of units.
use Rattle.std.proofs.Common.{◌≢◌, ℕ, List, sym, subst, Option}
use Rattle.lnt_wire.specs.declared.fault.Fault.{Fault}
use Rattle.lnt_wire.specs.declared.fault.Reason.TheVariants.{Memory}
use Rattle.lnt_unit.specs.Units.{BufferedUnit}
use Rattle.lnt_unit.specs.BrokenUnits.{BrokenUnit}
use Rattle.lnt_lines.specs.Judging.{IsUnitRefusal, Refusal}
use Rattle.lnt_lines.specs.Running.{IsFaultRefusal}
use Rattle.lnt_lines.specs.Running.IsFaultRefusal.{malformed, memory}

-- bytes that are no unit's
pub fault_refused : (text general : List ℕ) (dead : Option ℕ) (buffer : BufferedUnit) (fault : Fault) (refusal : Refusal)
    → IsFaultRefusal fault refusal
    → (fault.reason ≢ Memory → BrokenUnit buffer.order fault buffer.offset buffer.bytes) → IsUnitRefusal text general dead buffer refusal
fault_refused text general dead buffer fault refusal (memory is e) b = subst (IsUnitRefusal text general dead buffer) (sym e) tt
fault_refused text general dead buffer fault refusal (malformed is e) b = subst (IsUnitRefusal text general dead buffer) (sym e) (b is)
