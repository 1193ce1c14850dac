-- Where programs are kept, the numbers of their rows are of at most 64 bits, and so are those of the spans between these.
use Rattle.std.proofs.Common.{ℕ, ◌^◌, ◌<◌, List, [], ◌∷◌, arith}
use Rattle.std.specs.List.{All, AllByRecursion, AllZip}
use Rattle.lnt_header.specs.declared.unit_parts.UnitParts.{UnitParts}
use Rattle.lnt_machine.specs.Walking.{KeepsProgram, KeptProgram}
use Rattle.lnt_machine.proofs.FittingLaws.{FitsRow, HasNumbers, kept_fits}
use Rattle.lnt_spans.specs.Spans.{FitsSpan}
use Rattle.lnt_sequences.specs.RowSpans.{spans_of}
use Rattle.lnt_sequences.specs.Sequences.{kept_sequences, Selection}
use Rattle.lnt_sequences.proofs.EachLaws.{Between, each_kept_span, EachIn}
use Rattle.std.proofs.lemmas.Grind.{common_steps}

abbrev IsSmall : ℕ → Type 0
IsSmall offset = offset < 2 ^ 64

between_fits : Between IsSmall FitsRow FitsSpan
between_fits unit row next small one other = grind (arith, common_steps)

units_fit : (units : List (ℕ × UnitParts)) (programs : List KeptProgram) → AllZip (λ unit kept. KeepsProgram kept unit.1) units programs
    → AllByRecursion HasNumbers programs → AllByRecursion (λ (unit : ℕ × UnitParts). unit.0 < 2 ^ 64) units
    → AllByRecursion (EachIn IsSmall FitsRow) units
units_fit [] programs keeps numbers small = tt
units_fit (unit ∷ units) [] keeps numbers small = absurd keeps
units_fit (unit ∷ units) (kept ∷ programs) keeps numbers small = (
  record { offset = small.0; rows = kept_fits kept unit.1 numbers.0 keeps.0 },
  units_fit units programs keeps.1 numbers.1 small.1,
)

-- The spans of the kept sequences of units fit, where their programs are kept and their offsets fit.
pub kept_spans_fit : (selection : Selection) (programs : List KeptProgram)
    → AllZip (λ unit kept. KeepsProgram kept unit.1) selection.units programs → AllByRecursion HasNumbers programs
    → AllByRecursion (λ (unit : ℕ × UnitParts). unit.0 < 2 ^ 64) selection.units → All FitsSpan (spans_of (kept_sequences selection))
kept_spans_fit selection programs keeps numbers small =
    each_kept_span IsSmall FitsRow FitsSpan selection between_fits (units_fit selection.units programs keeps numbers small)
