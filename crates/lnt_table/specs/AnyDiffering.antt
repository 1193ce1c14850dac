-- All positions at which the answers of a table and of a section's rows differ.
use Rattle.std.specs.Prelude.{◌≢◌, ℕ, List}
use Rattle.lnt_spans.specs.declared.listed.SpanList.{SpanList}
use Rattle.lnt_spans.specs.declared.span.Span.{Span}
use Rattle.lnt_sequences.specs.Sequences.{line_answer, Selection}
use Rattle.lnt_compare.specs.declared.outcome.TableRead.TheVariants.{Fault}
use Rattle.lnt_records.specs.declared.fault.TableFault.TheVariants as fault
use Rattle.lnt_compare.specs.declared.remaining.Remaining.{Remaining}
use Rattle.lnt_compare.specs.Differing.{Differing, IsDiffering, IsStarted}
use Rattle.lnt_records.specs.Faults.{IsUnnumbered}
use Rattle.lnt_compare.specs.Held.{HeldTable, HoldsInOrder, IsHeld}
use Rattle.lnt_table.specs.declared.kinds.OfKind.{OfKind}
use Rattle.lnt_table.specs.declared.kinds.OfKind.TheVariants.{ByPath, Numbered}

-- what gives the stretches of a table by number, or a table by path that is held
abbrev pub AnyDiffering : Type 0 → Type 0
AnyDiffering S = OfKind (Differing S) HeldTable

-- For bytes with the header of version 1 or 2: the stretches at which the answers of the table and of the units' rows differ, or the first
-- fault, which isn't the header's. Otherwise the bytes begin with neither header, and `held` is the table by path that they are, or their
-- first fault.
abbrev pub IsAnyDiffering : {S : Type 0} → (Remaining S → List Span → Type 0) → (SpanList → List Span → Type 0) → Selection → List ℕ
    → AnyDiffering S → Type 0
IsAnyDiffering of_section of_table selection table (Numbered told) =
    IsDiffering of_section of_table table (line_answer selection) told × (told ≢ Fault fault.Header)
IsAnyDiffering of_section of_table selection table (ByPath held) = IsUnnumbered table × IsHeld table held

-- Whatever the units are: of a table by number no stretch has been given yet, and the spans of a table by path are in order.
abbrev pub IsStartedAny : {S : Type 0} → (Remaining S → List Span → Type 0) → (SpanList → List Span → Type 0) → AnyDiffering S → Type 0
IsStartedAny of_section of_table (Numbered told) = IsStarted of_section of_table told
IsStartedAny of_section of_table (ByPath held) = HoldsInOrder held
