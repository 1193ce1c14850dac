-- Sections that are read.
use Rattle.std.proofs.Common.{◌≡◌, ℕ, List, ◌⊎◌, Option, Some, None, IfSome, Result, Ok, Err, IfOk, OnErr, inr, refl}
use Rattle.std.specs.Io.KnownBytes.{Keeps}
use Rattle.lnt_wire.specs.declared.format.Format.{Format}
use Rattle.lnt_wire.specs.declared.format.Order.{Order}
use Rattle.lnt_io.specs.declared.io_stop.IoStop.{IoStop}
use Rattle.lnt_io.specs.declared.status.Status.{Status}
use Rattle.lnt_io.specs.declared.status.Status.TheVariants.{Done, No}
use Rattle.lnt_unit.specs.Converting.{IsConverted}
use Rattle.lnt_words.specs.declared.request.Reading.TheVariants.{Convert}
use Rattle.lnt_dump.specs.Printed.{IsConversionBegun, IsPrintedIn, IsRefusalPrinted}
use Rattle.lnt_cli.specs.Questions.{AnswersReading, BeginsReading}

-- the conversion of a section, whichever way it ends
pub conversion_told : (order : Order) (format : Format) (to : Order) (section old new : Option (List ℕ)) (printed : Result Status IoStop)
    → IfOk printed (λ status. status ≡ Done → IfSome section (λ bytes. IsPrintedIn (IsConverted order bytes format to) old new))
    → IfOk printed (λ status. status ≡ No → IfSome section (λ bytes. IsRefusalPrinted order bytes format to old new))
    → IfOk printed (AnswersReading order (Convert format to) section old new)
conversion_told order format to None old new (Ok status) if_done if_no = tt
conversion_told order format to (Some bytes) old new (Ok Done) if_done if_no = if_done refl
conversion_told order format to (Some bytes) old new (Ok No) if_done if_no = if_no refl
conversion_told order format to section old new (Err io_stop) if_done if_no = tt

-- the same where it was stopped
pub conversion_stopped : (order : Order) (format : Format) (to : Order) (section old new : Option (List ℕ)) (printed : Result Status IoStop)
    → OnErr printed (IfSome section (λ bytes. IsConversionBegun order bytes format to old new))
    → OnErr printed (Keeps old new ⊎ BeginsReading order (Convert format to) section old new)
conversion_stopped order format to section old new (Ok status) begun = tt
conversion_stopped order format to None old new (Err io_stop) begun = inr tt
conversion_stopped order format to (Some bytes) old new (Err io_stop) begun = begun
