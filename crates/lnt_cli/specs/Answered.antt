-- The answers to requests, and the bytes of which they are true.
--     tells       what the opener may say of the file with a name, as the run begins
--     old, new    what the writer of the answer holds before and afterwards
use Rattle.std.specs.Prelude.{◌≡◌, ℕ, List, [], Option, None, IfSome, IsSomeAnd, MatchOption, string_bytes}
use Rattle.std.specs.Prelude.{Bool, false, true}
use Rattle.std.specs.Option.{option_copied}
use Rattle.std.specs.Io.KnownBytes.{Appends}
use Rattle.lnt_io.specs.Files.{AreBytesOf, FileState, Readable}
use Rattle.lnt_io.specs.declared.status.Status.{Status}
use Rattle.lnt_io.specs.declared.status.Status.TheVariants.{Done}
use Rattle.lnt_wire.specs.declared.format.Order.{Order}
use Rattle.lnt_lines.specs.declared.options.Options.{Options}
use Rattle.lnt_lines.specs.declared.section.JudgedIndex.{JudgedIndex}
use Rattle.lnt_answers.specs.Lines.{IsJudgedBy}
use Rattle.lnt_words.specs.declared.request.FileQuestion.{FileQuestion}
use Rattle.lnt_words.specs.declared.request.FileQuestion.TheVariants.{Check}
use Rattle.lnt_words.specs.declared.request.Judging.{Judging}
use Rattle.lnt_words.specs.declared.request.Question.{Question}
use Rattle.lnt_words.specs.declared.request.Reading.{Reading}
use Rattle.lnt_words.specs.declared.request.Request.{Request}
use Rattle.lnt_words.specs.declared.request.Request.TheVariants.{Help, Read, Upgrade, Symbols, Judge, JudgeWith}
use Rattle.lnt_words.specs.declared.request.Upgrading.{Upgrading}
use Rattle.lnt_table.specs.declared.within.CheckedWithin.{CheckedWithin}
use Rattle.lnt_spans.specs.declared.scope.Scope.{Scope}
use Rattle.lnt_table.specs.AnyCopy.{IsTrueOfAny, skipping}
use Rattle.lnt_spans.specs.Partial.{scope_in}
use Rattle.lnt_table.specs.AnyVersion.{IsOfScope, IsTrueOfSectionWithin, IsTrueWithin}
use Rattle.lnt_answers.specs.Verdicts.{checked_line, checked_status}
use Rattle.lnt_words.specs.Words.{size_bytes}
use Rattle.lnt_symbols.specs.SymbolTables.{HasPrinted, symbol_answers}
use Rattle.lnt_dump.specs.Printed.{IsUpgradePrinted}
use Rattle.lnt_cli.specs.Questions.{AnswersGood, AnswersGoodFile, AnswersJudged, AnswersReading, asks_copies}

-- the options with which a section is read and judged
abbrev pub options_in : Judging → Options
options_in from = record { order = from.order; dead = from.dead; skip_copies = from.skip_copies }

-- the options of a check: where any copy counts, copies are skipped
abbrev pub options_by : Bool → Options → Options
options_by false options = options
options_by true options = skipping options

-- This is true of the bytes of the named file, which may be unknown.
pub record IsOfBytes (finds : List ℕ → FileState → Type 0) (name : List ℕ) (IsSo : Option (List ℕ) → Type 0) : Type 0 where
  pub bytes : Option (List ℕ)
  pub is_found : finds name (Readable bytes)
  pub so : IsSo bytes

-- the bytes of a string section: those of its file; empty if no file is named
abbrev pub AreStringsOf : (List ℕ → FileState → Type 0) → Option (List ℕ) → List ℕ → Type 0
AreStringsOf finds name bytes = MatchOption name (bytes ≡ []) (λ named. AreBytesOf (finds named) bytes)

-- These are the bytes of both string sections.
pub record AreTextsOf (finds : List ℕ → FileState → Type 0) (from : Judging) (line general : List ℕ) : Type 0 where
  pub line_is : AreStringsOf finds (option_copied from.line_strings) line
  pub general_is : AreStringsOf finds (option_copied from.strings) general

-- This is true of the bytes of both string sections, and of those of the section in the named file.
pub record IsOfSection (finds : List ℕ → FileState → Type 0) (from : Judging) (IsSo : List ℕ → List ℕ → Option (List ℕ) → Type 0)
    : Type 0 where
  pub line : List ℕ
  pub general : List ℕ
  pub texts : AreTextsOf finds from line general
  pub of_section : IsOfBytes finds from.section.now (IsSo line general)

-- The same, and of the bytes of another file.
abbrev pub IsOfFile : (List ℕ → FileState → Type 0) → Judging → List ℕ
    → (Option (List ℕ) → List ℕ → List ℕ → Option (List ℕ) → Type 0) → Type 0
IsOfFile finds from file IsSo = IsOfBytes finds file (λ bytes. IsOfSection finds from (IsSo bytes))

-- ---- sections that are compared with a table

-- What a check answers is true: by the answers of the sequences that are kept, or if any copy counts, by those of each live sequence.
abbrev pub IsTrueBy : Bool → Scope → List ℕ → List ℕ → Options → List ℕ → List ℕ → CheckedWithin → Type 0
IsTrueBy false = IsTrueWithin
IsTrueBy true = IsTrueOfAny

-- The check's answer is true of the section and of the table (text), of any version, at the positions of the scope; it was written, and
-- nothing else, and the run ends with its status. A table that is right wherever it answers has to answer at this percentage of the
-- section's addresses (at_least). What it says of the section is true even if nothing is known of the table's bytes.
pub record IsChecked (from : Judging) (any_copy : Bool) (scope : Scope) (at_least : ℕ) (old new : Option (List ℕ)) (status : Status)
    (text : Option (List ℕ)) (line general : List ℕ) (section : Option (List ℕ)) : Type 0 where
  pub checked : CheckedWithin
  pub is_true : IfSome section (λ bytes. IfSome text (λ table.
      IsTrueBy any_copy scope line general (options_by any_copy (options_in from)) bytes table checked))
  pub is_true_of_section : IfSome section (λ bytes.
      IsTrueOfSectionWithin line general (options_by any_copy (options_in from)) bytes checked)
  pub of_scope : IsOfScope checked scope
  pub printed : Appends old new (checked_line at_least checked)
  pub status_is : status ≡ checked_status at_least checked

-- ---- sections that are judged

-- The judgement of the section is true; if any copy counts, that of the section with copies skipped, and the index has them all.
abbrev pub IsTrueOf : Bool → Judging → List ℕ → List ℕ → Option (List ℕ) → JudgedIndex → Type 0
IsTrueOf any_copy from line general section judged =
    IfSome section (λ bytes. IsJudgedBy any_copy line general (options_by any_copy (options_in from)) bytes judged)

-- that judgement, and a statement about it
abbrev pub IsJudgedSo : Bool → Judging → (JudgedIndex → Type 0) → List ℕ → List ℕ → Option (List ℕ) → Type 0
IsJudgedSo any_copy from IsTold line general section =
    (judged : JudgedIndex) × IsTrueOf any_copy from line general section judged × IsTold judged

-- The answer to the question was written, or why the section isn't good.
abbrev pub AnswersQuestion : (List ℕ → FileState → Type 0) → Judging → Question → Option (List ℕ) → Option (List ℕ) → Status
    → Type 0
AnswersQuestion finds from question old new status =
    IsOfSection finds from (IsJudgedSo false from (AnswersJudged (AnswersGood finds question) old new status))

-- The answer to the question about the section and another file, of these bytes, was written. It is that of a check, or what a section
-- that is judged says of the file.
abbrev pub AnswersWith : Judging → FileQuestion → Option (List ℕ) → Option (List ℕ) → Status → Option (List ℕ) → List ℕ → List ℕ
    → Option (List ℕ) → Type 0
AnswersWith from (Check false ends partial at_least any_copy) old new status bytes line general section =
    IsChecked from any_copy (scope_in partial) at_least old new status bytes line general section
AnswersWith from question old new status bytes line general section =
    IsJudgedSo (asks_copies question) from (AnswersJudged (AnswersGoodFile question bytes) old new status) line general section

-- The answer to the question about the section and the file with this name was written.
abbrev pub AnswersFile : (List ℕ → FileState → Type 0) → Judging → List ℕ → FileQuestion → Option (List ℕ) → Option (List ℕ) → Status
    → Type 0
AnswersFile finds from file question old new status = IsOfFile finds from file (AnswersWith from question old new status)

-- ---- sections that are read

-- The answer of this reading was written, for the section in the named file.
abbrev pub AnswersRead : (List ℕ → FileState → Type 0) → List ℕ → Order → Reading → Option (List ℕ) → Option (List ℕ) → Status → Type 0
AnswersRead finds section order reading old new status =
    IsOfBytes finds section (λ known. AnswersReading order reading known old new status)

-- the bytes of a file that is named, or not
abbrev pub IsTextOf : (List ℕ → FileState → Type 0) → Option (List ℕ) → Option (List ℕ) → Type 0
IsTextOf finds name text = MatchOption name (text ≡ None) (λ named. IsSomeAnd text (AreBytesOf (finds named)))

-- This is true of the bytes of a section that is written anew, and of the text of directories.
pub record IsOfUpgrade (finds : List ℕ → FileState → Type 0) (from : Upgrading) (IsSo : List ℕ → Option (List ℕ) → Type 0)
    : Type 0 where
  pub bytes : List ℕ
  pub of_section : AreBytesOf (finds from.section.now) bytes
  pub text : Option (List ℕ)
  pub of_directories : IsTextOf finds (option_copied from.directories) text
  pub so : IsSo bytes text

-- The section in the named file was written with its older units anew, or why it can't be.
abbrev pub AnswersUpgrade : (List ℕ → FileState → Type 0) → Upgrading → Option (List ℕ) → Option (List ℕ) → Status → Type 0
AnswersUpgrade finds from old new status =
    IsOfUpgrade finds from (λ bytes text. IsUpgradePrinted from.order (size_bytes from.address_size) bytes text old new status)

-- ---- symbol files

-- The table of the answers of the symbol file with this name was written, if its address 0 is loaded at this base, or its first fault.
abbrev pub AnswersSymbols : (List ℕ → FileState → Type 0) → List ℕ → ℕ → Option (List ℕ) → Option (List ℕ) → Status → Type 0
AnswersSymbols finds file base old new status =
    IsOfBytes finds file (λ known. IfSome known (λ bytes. HasPrinted (symbol_answers base bytes) old new status))

-- ---- requests

-- The answer to a request.
abbrev pub IsAnswered : (List ℕ → FileState → Type 0) → Request → Option (List ℕ) → Option (List ℕ) → Status → Type 0
IsAnswered finds (Help text) old new status = Appends old new (string_bytes text) × (status ≡ Done)
IsAnswered finds (Read section order reading) old new status = AnswersRead finds section.now order reading old new status
IsAnswered finds (Upgrade from) old new status = AnswersUpgrade finds from old new status
IsAnswered finds (Symbols file base) old new status = AnswersSymbols finds file.now base old new status
IsAnswered finds (Judge from question) old new status = AnswersQuestion finds from question old new status
IsAnswered finds (JudgeWith from file question) old new status = AnswersFile finds from file.now question old new status
