-- The laws of verdicts and of answers of `check_any`.
use Rattle.std.specs.Prelude.{◌≡◌, ℕ, List, [], Option, option_map}
use Rattle.std.specs.List.{AllByRecursion}
use Rattle.lnt_header.specs.declared.unit_parts.UnitParts.{UnitParts}
use Rattle.lnt_spans.specs.declared.answer.Version.{Version}
use Rattle.lnt_spans.specs.declared.position.Position.{Position}
use Rattle.lnt_spans.specs.declared.span.Span.{Span}
use Rattle.lnt_spans.specs.Spans.{FitSpans, IsOfInstructions, span_answer}
use Rattle.lnt_spans.specs.declared.answer.Answer.{Answer}
use Rattle.lnt_spans.specs.Answers.{in_version}
use Rattle.lnt_sequences.specs.Copies.{IsAnyAnswer}
use Rattle.lnt_sequences.specs.Rules.{AreApart}
use Rattle.lnt_sequences.specs.Sequences.{Selection, line_answer, live_sequences}
use Rattle.lnt_records.specs.Faults.{IsUnnumbered}
use Rattle.lnt_lines.specs.declared.options.Options.{Options}
use Rattle.lnt_lines.specs.Contents.{Contents}
use Rattle.lnt_lines.specs.Judging.{AreLinesOf}
use Rattle.lnt_lines.specs.Good.{IsGood, selected}
use Rattle.lnt_compare.specs.declared.outcome.Compared.TheVariants.{Same}
use Rattle.lnt_compare.specs.Comparisons.{stretch_told}
use Rattle.lnt_records.specs.Table.{IsTableOfIn, by_number}
use Rattle.lnt_records.specs.PathTables.{by_path}
use Rattle.lnt_records.specs.declared.path_records.version.PathVersion.{PathVersion}
use Rattle.lnt_records.specs.PathSpans.{PathAnswer, path_answer}
use Rattle.lnt_compare.specs.PathStretches.{stretch_of}
use Rattle.lnt_writing.specs.Canonical.{IsCanonicalPathTable}
use Rattle.lnt_table.specs.Verdicts.{Checked, Verdict}
use Rattle.lnt_table.specs.declared.kinds.OfKind.TheVariants.{Numbered, ByPath}
use Rattle.lnt_table.specs.AnyVersion.{IsTrueCheck, IsTrueWithin}
use Rattle.lnt_table.specs.declared.within.CheckedWithin.{CheckedWithin}
use Rattle.lnt_table.specs.declared.within.CheckedWithin.TheVariants.{Checked as Told, Covered}
use Rattle.lnt_spans.specs.declared.scope.Scope.{Scope}
use Rattle.lnt_spans.specs.declared.scope.Coverage.{Coverage}
use Rattle.lnt_spans.specs.declared.scope.Scope.TheVariants.{All, Answered}
use Rattle.lnt_table.specs.AnyCopy.{IsTrueOfAny, skipping}
use Rattle.lnt_table.specs.Headline.{answer_by_path, AnswersRight, IsTrueVerdict}
use Rattle.lnt_table.specs.declared.verdict.Verdict.TheVariants.{Yes}
use Rattle.lnt_table.specs.Written.{IsTableOfLines, IsTableOfUnits}

-- For a good section, and a table that answers as it does, Yes is the only true verdict.
abbrev pub OnlyYes : Type 0
OnlyYes = (line general : List ℕ) (options : Options) (section table : List ℕ) (verdict : Verdict)
    → AnswersRight line general options section table
    → IsTrueVerdict line general options section table verdict → verdict ≡ Yes

-- For one section, table and choice of options at most one verdict is true.
pub record OneVerdict : Type 0 where
  pub one : (line general : List ℕ) (options : Options) (section table : List ℕ) (one other : Verdict)
      → IsTrueVerdict line general options section table one → IsTrueVerdict line general options section table other → one ≡ other

-- For a good section, and a table that was written from its lines, Yes is the only true verdict.
abbrev pub OwnTable : Type 0
OwnTable = (line general : List ℕ) (options : Options) (section table : List ℕ) (lines : Contents) (version : Version) (verdict : Verdict)
    → AreLinesOf line general options section lines → IsTableOfLines version lines.spans table
    → IsTrueVerdict line general options section table verdict → verdict ≡ Yes

-- The same for a table that was written from its index.
abbrev pub OwnTableOfUnits : Type 0
OwnTableOfUnits =
    (line general : List ℕ) (options : Options) (section table : List ℕ) (units : List (ℕ × UnitParts)) (version : Version)
    (verdict : Verdict)
    → IsGood line general options section units → IsTableOfUnits version (selected options units) table
    → IsTrueVerdict line general options section table verdict → verdict ≡ Yes

-- The rows of some units have one table of each version, byte for byte, and so have answers by path.
pub record OneWritten : Type 0 where
  pub of_units : (version : Version) (selection : Selection) (one other : List ℕ)
      → IsTableOfUnits version selection one → IsTableOfUnits version selection other → one ≡ other
  pub by_path : (version : PathVersion) (answers : Position → Option PathAnswer) (one other : List ℕ)
      → IsCanonicalPathTable version answers one → IsCanonicalPathTable version answers other → one ≡ other

-- ---- checks of a table of any version

-- If a verdict is true of a section and a table, no other answer is: neither another verdict nor one by path.
pub record OneNumbered : Type 0 where
  pub one : (line general : List ℕ) (options : Options) (section table : List ℕ) (verdict : Verdict) (checked : Checked)
      → IsTrueCheck line general options section table (Numbered verdict) → IsTrueCheck line general options section table checked
      → checked ≡ Numbered verdict

-- Two answers say the same: the same verdict, or the same by path.
abbrev pub SayTheSame : Checked → Checked → Type 0
SayTheSame (Numbered one) (Numbered other) = one ≡ other
SayTheSame (ByPath one) (ByPath other) = stretch_told stretch_of one ≡ stretch_told stretch_of other
SayTheSame one other = ⊥

-- For one section, table and choice of options all true answers say the same.
pub record OneCheck : Type 0 where
  pub one : (line general : List ℕ) (options : Options) (section table : List ℕ) (one other : Checked)
      → IsTrueCheck line general options section table one → IsTrueCheck line general options section table other → SayTheSame one other

-- For a good section and the table by path of its units' answers, `ByPath Same` is a true answer, and no verdict is.
pub record OwnTableByPath : Type 0 where
  pub same : (line general : List ℕ) (options : Options) (section table : List ℕ) (units : List (ℕ × UnitParts)) (version : PathVersion)
      → IsGood line general options section units
      → IsCanonicalPathTable version (answer_by_path version line general (selected options units)) table
      → IsTrueCheck line general options section table (ByPath Same)
  pub no_verdict : (line general : List ℕ) (options : Options) (section table : List ℕ) (units : List (ℕ × UnitParts))
      (version : PathVersion) (verdict : Verdict) → IsGood line general options section units
      → IsCanonicalPathTable version (answer_by_path version line general (selected options units)) table
      → IsTrueCheck line general options section table (Numbered verdict) → ⊥

-- ---- checks at the positions of a scope

-- The same of two answers of `check_within`; or they say that the table answers equally much.
abbrev pub SayTheSameWithin : CheckedWithin → CheckedWithin → Type 0
SayTheSameWithin (Told one) (Told other) = SayTheSame one other
SayTheSameWithin (Covered one) (Covered other) = one ≡ other
SayTheSameWithin one other = ⊥

-- For one section, table, choice of options and scope all true answers say the same.
pub record OneWithin : Type 0 where
  pub one : (scope : Scope) (line general : List ℕ) (options : Options) (section table : List ℕ) (one other : CheckedWithin)
      → IsTrueWithin scope line general options section table one → IsTrueWithin scope line general options section table other
      → SayTheSameWithin one other

-- It is true that the table is right wherever it answers, and that it answers so many of the section's addresses, of some number of
-- them.
abbrev pub IsCovered : List ℕ → List ℕ → Options → List ℕ → List ℕ → (ℕ → ℕ) → Type 0
IsCovered line general options section table answered = (all : ℕ)
    × IsTrueWithin Answered line general options section table (Covered (record { answered = answered all; all = all }))

-- A table that answers as the section does at every position is right wherever it answers, and answers all of its addresses.
pub record YesIsCovered : Type 0 where
  pub numbered : (line general : List ℕ) (options : Options) (section table : List ℕ)
      → IsTrueCheck line general options section table (Numbered Yes) → IsCovered line general options section table (λ all. all)
  pub by_path : (line general : List ℕ) (options : Options) (section table : List ℕ)
      → IsTrueCheck line general options section table (ByPath Same) → IsCovered line general options section table (λ all. all)

-- These spans begin and end at operation index 0, their numbers have at most 64 bits, and they answer as the rows of these units do.
pub record AreOfInstructions (selection : Selection) (spans : List Span) : Type 0 where
  pub each : AllByRecursion IsOfInstructions spans
  pub fits : FitSpans spans
  pub answers : (p : Position) → span_answer spans p ≡ line_answer selection p

-- A table by path that is right wherever it answers, and answers all of the section's addresses, answers as the section does at every
-- position, if the section's spans begin and end at operation index 0.
abbrev pub CoveredIsYes : Type 0
CoveredIsYes = (line general : List ℕ) (options : Options) (section table : List ℕ) (all : ℕ) → IsUnnumbered table
    → ((units : List (ℕ × UnitParts)) → IsGood line general options section units
    → (spans : List Span) × AreOfInstructions (selected options units) spans)
    → IsTrueWithin Answered line general options section table (Covered (record { answered = all; all = all }))
    → IsTrueCheck line general options section table (ByPath Same)

-- A table without records is right wherever it answers, and answers none of a good section's addresses.
pub record EmptyIsCovered : Type 0 where
  pub numbered : (line general : List ℕ) (options : Options) (section table : List ℕ) (units : List (ℕ × UnitParts)) (version : Version)
      → IsGood line general options section units → IsTableOfIn by_number version table []
      → IsCovered line general options section table (λ all. 0)
  pub by_path : (line general : List ℕ) (options : Options) (section table : List ℕ) (units : List (ℕ × UnitParts))
      (version : PathVersion) → IsGood line general options section units → IsTableOfIn by_path version table []
      → IsCovered line general options section table (λ all. 0)

-- ---- any of the sequences that hold a position

-- A table that is right by the kept sequences is right by any of the live ones, and answers as much.
pub record KeptIsAny : Type 0 where
  pub numbered : (line general : List ℕ) (options : Options) (section table : List ℕ)
      → IsTrueCheck line general (skipping options) section table (Numbered Yes)
      → IsTrueOfAny All line general (skipping options) section table (Told (Numbered Yes))
  pub by_path : (line general : List ℕ) (options : Options) (section table : List ℕ)
      → IsTrueCheck line general (skipping options) section table (ByPath Same)
      → IsTrueOfAny All line general (skipping options) section table (Told (ByPath Same))
  pub covered : (line general : List ℕ) (options : Options) (section table : List ℕ) (coverage : Coverage)
      → IsTrueWithin Answered line general (skipping options) section table (Covered coverage)
      → IsTrueOfAny Answered line general (skipping options) section table (Covered coverage)

-- If no position is held by two live sequences, what any of them answers is what the kept ones do, by number and by path.
pub record AnyIsKept : Type 0 where
  pub numbered : (version : Version) (selection : Selection) (p : Position) (said : Option Answer)
      → AreApart (live_sequences selection.dead selection.units) → IsAnyAnswer (in_version version) selection p said
      → said ≡ option_map (in_version version) (line_answer selection p)
  pub by_path : (version : PathVersion) (path : ℕ → ℕ → List ℕ) (selection : Selection) (p : Position) (said : Option PathAnswer)
      → AreApart (live_sequences selection.dead selection.units) → IsAnyAnswer (path_answer version path) selection p said
      → said ≡ option_map (path_answer version path) (line_answer selection p)
