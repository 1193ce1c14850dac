-- A section that is written anew, and the file of its directories.
use Rattle.std.proofs.Common.{◌≡◌, ℕ, List, Option, Some, None, subst}
use Rattle.lnt_io.specs.Files.{FileState, Readable, FindsNoMore}
use Rattle.lnt_io.specs.declared.status.Status.{Status}
use Rattle.lnt_wire.specs.declared.format.Order.{Order}
use Rattle.lnt_dump.specs.Printed.{IsUpgradePrinted}
use Rattle.lnt_cli.specs.Answered.{IsTextOf}

-- what is known of a file later was known before
pub text_before : (before later : List ℕ → FileState → Type 0) (file text : Option (List ℕ)) → FindsNoMore before later
    → IsTextOf later file text → IsTextOf before file text
text_before before later None None less is = is
text_before before later None (Some text) less is = is
text_before before later (Some name) None less is = is
text_before before later (Some name) (Some text) less is =
    record { found = is.found; is_found = less name (Readable is.found) is.is_found; same = is.same }

-- the same bytes
pub told_of : (order : Order) (size : ℕ) (bytes same : List ℕ) (text old new : Option (List ℕ)) (status : Status) → bytes ≡ same
    → IsUpgradePrinted order size bytes text old new status → IsUpgradePrinted order size same text old new status
told_of order size bytes same text old new status e printed =
    subst (λ (b : List ℕ). IsUpgradePrinted order size b text old new status) e printed
