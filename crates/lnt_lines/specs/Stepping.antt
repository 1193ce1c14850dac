-- What the bodies of this crate say of one step. No public contract speaks of it.
use Rattle.std.specs.Prelude.{◌≡◌, ℕ, List, [], ◌∷◌, ◌++◌, map, IfSome, Option, Some, None}
use Rattle.std.specs.List.{AllByRecursion, AllZip}
use Rattle.lnt_header.specs.Joins.{AreRising}
use Rattle.lnt_header.specs.HeaderRules.{AreHeaderNumbers}
use Rattle.lnt_unit.specs.Units.{BufferedUnit}
use Rattle.lnt_header.specs.declared.unit_parts.UnitParts.{UnitParts}
use Rattle.lnt_unit.specs.UnitBytes.{SectionBytes, UnitBytesIn}
use Rattle.lnt_machine.specs.Walking.{KeepsProgram}
use Rattle.lnt_sequences.specs.Rules.{AreDistinct}
use Rattle.lnt_sequences.specs.Sequences.{live_sequences}
use Rattle.lnt_sequences.specs.Watching.{Collects}
use Rattle.lnt_lines.specs.declared.draft.Draft.{Draft}
use Rattle.lnt_lines.specs.declared.refusal.Refusal.{Refusal}
use Rattle.lnt_lines.specs.declared.refusal.Refusal.TheVariants as refusal
use Rattle.lnt_lines.specs.Good.{IsSoundUnit, Options}
use Rattle.lnt_lines.specs.Nos.{IsTrueNo}
use Rattle.lnt_spans.specs.declared.span.Span.{Span}
use Rattle.lnt_spans.specs.Remaining.{GivesFirstSpan}
use Rattle.lnt_lines.specs.Cursors.{Cursor, ComeLater, AreToCome}

-- The draft is of these units, all of which are valid.
pub record IsDraftOf (line general : List ℕ) (dead : Option ℕ) (units : List (ℕ × UnitParts)) (draft : Draft) : Type 0 where
  pub sound : AllByRecursion (IsSoundUnit line general dead) units
  pub collects : Collects draft.collected (live_sequences dead units)
  pub offsets : draft.units.items ≡ map (λ unit. unit.0) units
  pub programs : AllZip (λ unit kept. KeepsProgram kept unit.1) units draft.programs.items

-- The draft is of some units in order, with different sequences, and with headers whose numbers can be read.
pub record IsWholeDraft (line general : List ℕ) (draft : Draft) : Type 0 where
  pub dead : Option ℕ
  pub units : List (ℕ × UnitParts)
  pub draft_is : IsDraftOf line general dead units draft
  pub numbers : AllByRecursion (λ unit. AreHeaderNumbers unit.1.header.numbers) units
  pub distinct : AreDistinct (live_sequences dead units)
  pub rising : AreRising draft.units.items

-- The draft is of the units whose bytes are the whole section, if its source's bytes are known.
pub record IsDraftOfSection (line general : List ℕ) (options : Options) (section : Option (List ℕ)) (draft : Draft) : Type 0 where
  pub units : List (ℕ × UnitParts)
  pub bytes : List ℕ
  pub spelled : SectionBytes options.order units bytes
  pub whole : IfSome section (λ known. bytes ≡ known)
  pub draft_is : IsDraftOf line general options.dead units draft

-- One more unit is in the draft: that whose bytes are in the buffer.
pub record HasAdded (line general : List ℕ) (dead : Option ℕ) (buffer : BufferedUnit) (old new : Draft) : Type 0 where
  pub unit : UnitParts
  pub spelled : UnitBytesIn buffer.order unit buffer.bytes
  pub drafts : (units : List (ℕ × UnitParts)) → IsDraftOf line general dead units old
      → IsDraftOf line general dead (units ++ (buffer.offset, unit) ∷ []) new

-- What is reported of the section is wrong with it.
abbrev pub IsRefusal : List ℕ → List ℕ → Options → List ℕ → Refusal → Type 0
IsRefusal line general options section (refusal.No reason) = IsTrueNo line general options section reason
IsRefusal line general options section (refusal.Stop stop) = Unit {0}

-- ---- the next span

-- The first of the spans was given, of the current sequence, and the others are to come; or all are those of the sequences
-- that haven't begun.
abbrev pub GivesHere : Cursor → List Span → Option Span → Type 0
GivesHere new spans None = ComeLater spans new
GivesHere new spans (Some given) = GivesFirstSpan (AreToCome new) spans (Some given)
