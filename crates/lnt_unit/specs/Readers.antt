-- What contracts see of a reader of a section.
use base.Fml.{GName}
use Rattle.std.specs.Prelude.{ℕ, ◌≡◌, ◌+◌, ◌<◌, length, false, Option, Some, None, IfSome, IfNone, Result, Ok, Err, IfOk, IfErr, OnErr}
use Rattle.std.specs.Prelude.{IsErrOf}
use Rattle.lnt_wire.specs.declared.format.Order.{Order}
use Rattle.lnt_io.specs.declared.source.Source.{Ghosts}
use Rattle.lnt_unit.specs.declared.reader.Progress.{Progress}
use Rattle.lnt_unit.specs.declared.reader.SectionReader.{SectionReader}
use Rattle.lnt_io.specs.Stopping.{CountsFailure, IsTooLongOn}
use Rattle.lnt_unit.specs.declared.reader.Progress.TheVariants.{Reading, Ended, Failed}
use Rattle.lnt_unit.specs.declared.stop.SectionStop.{SectionStop}
use Rattle.lnt_unit.specs.declared.stop.SectionStop.TheVariants as stop
use Rattle.lnt_unit.specs.Stops.{IfFault}
use Rattle.lnt_unit.specs.Units.{IsNextUnit, SectionEndsBy, BufferedUnit}

-- the source that the reader borrows, in its current state
abbrev pub source_of : {R : Type 0} {source : Ghosts R} → SectionReader R source → R
source_of reader = reader.source.now

-- the name of that loan, by which a caller knows afterwards what became of the source
abbrev pub loan_of : {R : Type 0} {source : Ghosts R} → SectionReader R source → GName
loan_of reader = reader.source.ghost_name

-- the byte order
abbrev pub order_of : {R : Type 0} {source : Ghosts R} → SectionReader R source → Order
order_of reader = reader.order

-- the offset in the section of the next unit
abbrev pub offset_of : {R : Type 0} {source : Ghosts R} → SectionReader R source → ℕ
offset_of reader = reader.offset

-- the progress of the reader
abbrev pub progress_of : {R : Type 0} {source : Ghosts R} → SectionReader R source → Progress
progress_of reader = reader.progress

-- ---- what a call of `next_unit` or `next_unit_in` does (DWARF 5, sections 6.2.4 and 7.4)

-- The reader is old before the call and new after it, the answer is the call's, and source is what the reader's source says of
-- itself.
pub record IsStep {R : Type 0} {source : Ghosts R} (old new : SectionReader R source)
    (answer : Result (Option BufferedUnit) SectionStop) : Type 0 where
  -- a unit is the next one, and the reader continues after it
  pub unit : IfOk answer (λ got. IfSome got (λ unit.
      IsNextUnit (offset_of old) (order_of old) (source.remaining (source_of old)) (source.remaining (source_of new)) unit))
  pub goes_on : IfOk answer (λ got. IfSome got (λ unit. (progress_of new ≡ Reading) × (offset_of new ≡ offset_of old + length unit.bytes)))
  pub left : IfOk answer (λ got. IfSome got (λ unit. source.left (source_of new) + length unit.bytes ≡ source.left (source_of old)))
  pub fewer : IfOk answer (λ got. IfSome got (λ unit. source.left (source_of new) < source.left (source_of old)))
  -- none comes only at the end of the section
  pub end : progress_of old ≡ Reading → IfOk answer (λ got. IfNone got
      (SectionEndsBy (offset_of old) (order_of old) (source.remaining (source_of old)) None))
  pub not_long : progress_of old ≡ Reading → IfOk answer (λ got. IfNone got (source.too_long (source_of new) ≡ false))
  pub ends : IfOk answer (λ got. IfNone got (progress_of new ≡ Ended))
  -- what a stop says is true, and the reader is done
  pub fault : IfErr answer (λ why. IfFault why (λ fault.
      SectionEndsBy (offset_of old) (order_of old) (source.remaining (source_of old)) (Some fault)))
  pub failures : CountsFailure source (source_of old) (source_of new) answer stop.Read
  pub too_long : IsTooLongOn source (source_of old) (source_of new) answer stop.TooLong
  pub stops : OnErr answer (progress_of new ≡ Failed)
  -- after the end, and after a stop, nothing changes
  pub ended : progress_of old ≡ Ended → (answer ≡ Ok None) × (new ≡ old)
  pub failed : progress_of old ≡ Failed → (answer ≡ Err stop.Failed) × (new ≡ old)
  pub failed_before : IsErrOf answer stop.Failed → progress_of old ≡ Failed
  -- what no call changes: the byte order, and which source it is
  pub order : order_of new ≡ order_of old
  pub same_reference : loan_of new ≡ loan_of old
