-- The answer to a question about a section that was judged, alone or with another file, and its prefixes.
--     tells       what the opener may say of the file with a name
--     old, new    what the writer of the answer holds before and afterwards
use Rattle.std.specs.Prelude.{ℕ, Bool, List, Option, IfSome, ◌≡◌, ◌++◌, true, false, codes, flat_map}
use Rattle.lnt_io.specs.Prefixes.{HasBegun, AppendsPrefix}
use Rattle.lnt_io.specs.declared.status.Status.{Status}
use Rattle.lnt_wire.specs.declared.format.Order.{Order}
use Rattle.lnt_words.specs.declared.request.FileQuestion.{FileQuestion}
use Rattle.lnt_words.specs.declared.request.FileQuestion.TheVariants.{Lines, Check}
use Rattle.lnt_words.specs.declared.request.Reading.{Reading}
use Rattle.lnt_words.specs.declared.request.Reading.TheVariants.{Convert, Dump, Units}
use Rattle.lnt_dump.specs.Dumps.{IsDumpBegun, IsDumped}
use Rattle.lnt_dump.specs.Printed.{IsConversionPrinted}
use Rattle.lnt_dump.specs.Units.{AreBytes, AreUnitsPrinted}
use Rattle.std.specs.Io.KnownBytes.{Appends}
use Rattle.lnt_io.specs.Files.{FileState}
use Rattle.lnt_io.specs.declared.status.Status.TheVariants as ending
use Rattle.lnt_spans.specs.declared.answer.Version.{Version}
use Rattle.lnt_spans.specs.declared.position.Position.{Position}
use Rattle.lnt_lines.specs.declared.section.JudgedIndex.{JudgedIndex}
use Rattle.lnt_lines.specs.declared.section.JudgedIndex.TheVariants.{Good, Bad}
use Rattle.lnt_lines.specs.Indexed.{Indexed, OfUnits}
use Rattle.lnt_words.specs.declared.request.Question.{Question}
use Rattle.lnt_words.specs.declared.request.Question.TheVariants.{Verify, Lookup, Files, Table, TableByPath, Md5}
use Rattle.lnt_records.specs.declared.path_records.version.PathVersion.{PathVersion}
use Rattle.lnt_records.specs.declared.path_records.version.PathVersion.TheVariants.{Three, Four}
use Rattle.lnt_answers.specs.declared.report.Report.{Report}
use Rattle.lnt_spans.specs.Partial.{scope_in}
use Rattle.lnt_table.specs.Headline.{told_path}
use Rattle.lnt_table.specs.Written.{BeginsTableOfUnits, IsTableOfUnits}
use Rattle.lnt_answers.specs.AddressLines.{AreAddressesBegun, AreAddressesPrinted}
use Rattle.lnt_answers.specs.Lines.{files_text, lookup_line}
use Rattle.lnt_answers.specs.SumLines.{AreSumsBegun, AreSumsPrinted, listed_files}
use Rattle.lnt_lines.specs.FaultTexts.{no_text}
use Rattle.lnt_answers.specs.PathTables.{BeginsPrintedTable, IsPrintedTable}
use Rattle.lnt_answers.specs.declared.printed_stretches.Stretches.{Stretches}
use Rattle.lnt_answers.specs.PrintedStretches.{AreStretchesBegun, IsFaultPrinted, AreStretchesOfIndex, OfThese, outcome_status}

-- ---- the answer if a section is read and its lines aren't judged
--     known       the section's bytes, where these are known
--     old, new    what the writer of the answer holds before and afterwards

-- The answer was appended to these bytes, and nothing else. For Units, that is the lines of the section's frames and of its first
-- fault; for Dump, the lines of its units and of its first fault; for Convert, the section in another format and order, or the line
-- that says why there is none.
abbrev pub AnswersReading : Order → Reading → Option (List ℕ) → Option (List ℕ) → Option (List ℕ) → Status → Type 0
AnswersReading order Units known old new status = AreUnitsPrinted order known old new status
AnswersReading order (Dump ops rows) known old new status = IsDumped order (record { ops = ops; rows = rows }) known old new status
AnswersReading order (Convert format to) known old new status =
    IfSome known (λ bytes. IsConversionPrinted order bytes format to old new status)

-- A prefix of that answer was appended to these bytes, and nothing else. For a list of units this is stated only if the section's
-- bytes are numbers below 256, as the bytes of each file are. Of a dump it is a prefix of the lines of units that the section begins
-- with, and of that of its first fault, if it was found.
abbrev pub BeginsReading : Order → Reading → Option (List ℕ) → Option (List ℕ) → Option (List ℕ) → Type 0
BeginsReading order Units known old new = IfSome known AreBytes → HasBegun (AreUnitsPrinted order known old) old new
BeginsReading order (Dump ops rows) known old new = IsDumpBegun order (record { ops = ops; rows = rows }) known old new
BeginsReading order (Convert format to) known old new =
    IfSome known (λ bytes. HasBegun (IsConversionPrinted order bytes format to old) old new)

-- ---- a section that was judged

-- The line of the units' answer at each of these positions was printed, and nothing else.
abbrev pub AreLookupsPrinted : Indexed → List Position → Option (List ℕ) → Option (List ℕ) → Type 0
AreLookupsPrinted index positions old new = OfUnits index (λ selection. Appends old new (flat_map (lookup_line index selection) positions))

-- The table of the units' answers was printed, and nothing else.
abbrev pub IsTablePrinted : Version → Indexed → Option (List ℕ) → Option (List ℕ) → Type 0
IsTablePrinted version index old new =
    (bytes : List ℕ) × Appends old new bytes × OfUnits index (λ selection. IsTableOfUnits version selection bytes)

-- The same for the table by path; or for the line that says that there can't be one.
abbrev pub IsPathTablePrinted : PathVersion → Indexed → Option (List ℕ) → Option (List ℕ) → Status → Type 0
IsPathTablePrinted version index old new status =
    OfUnits index (λ selection. IsPrintedTable version (told_path version index selection) old new status)

-- The answer for a good section with this index.
abbrev pub AnswersGood : (List ℕ → FileState → Type 0) → Question → Indexed → Option (List ℕ) → Option (List ℕ) → Status → Type 0
AnswersGood finds Verify index old new status = Appends old new (codes "yes\n") × (status ≡ ending.Done)
AnswersGood finds (Lookup positions) index old new status = AreLookupsPrinted index positions.items old new × (status ≡ ending.Done)
AnswersGood finds Files index old new status = Appends old new (files_text index) × (status ≡ ending.Done)
AnswersGood finds (Table version) index old new status = IsTablePrinted version index old new × (status ≡ ending.Done)
AnswersGood finds (TableByPath true) index old new status = IsPathTablePrinted Three index old new status
AnswersGood finds (TableByPath false) index old new status = IsPathTablePrinted Four index old new status
AnswersGood finds Md5 index old new status = AreSumsPrinted finds index (listed_files index) old new status

-- how a comparison at all positions is told
abbrev pub report_in : Bool → Bool → ℕ → Bool → Report
report_in ends partial at_least any_copy =
    record { scope = scope_in partial; ends = ends; any_copy = any_copy; at_least = at_least }

-- whether the question is one of a table, and any copy counts
abbrev pub asks_copies : FileQuestion → Bool
asks_copies (Lines op) = false
asks_copies (Check all ends partial at_least any_copy) = any_copy

-- What is written for a good section with this index and a table: the table's first fault, or all places in the scope where the two
-- differ.
pub record AreTableStretchesPrinted (report : Report) (index : Indexed) (table old new : Option (List ℕ)) (status : Status) : Type 0 where
  pub found : Stretches
  pub fault : IsFaultPrinted found old new
  pub status_is : status ≡ outcome_status found
  pub so : AreStretchesOfIndex report index table old new found

-- The answer for a good section with this index and another file, of these bytes.
abbrev pub AnswersGoodFile : FileQuestion → Option (List ℕ) → Indexed → Option (List ℕ) → Option (List ℕ) → Status → Type 0
AnswersGoodFile (Lines op) bytes index old new status = AreAddressesPrinted index op bytes old new status
AnswersGoodFile (Check all ends partial at_least any_copy) bytes index old new status =
    AreTableStretchesPrinted (report_in ends partial at_least any_copy) index bytes old new status

-- The answer for a section with this judgement: for a good one this, and for another the line that says why it isn't good.
abbrev pub AnswersJudged : (Indexed → Option (List ℕ) → Option (List ℕ) → Status → Type 0) → Option (List ℕ) → Option (List ℕ) → Status
    → JudgedIndex → Type 0
AnswersJudged AnswersOfGood old new status (Good index) = AnswersOfGood index old new status
AnswersJudged AnswersOfGood old new status (Bad reason) = Appends old new (no_text reason ++ codes "\n") × (status ≡ ending.No)

-- ---- answers that were stopped

-- a prefix of the table by path of the units' answers, or of the line that says that there can't be one
abbrev pub BeginsPathTableText : PathVersion → Indexed → Option (List ℕ) → Option (List ℕ) → Type 0
BeginsPathTableText version index old new =
    OfUnits index (λ selection. BeginsPrintedTable version (told_path version index selection) old new)

-- A prefix of the answer for a good section with this index.
abbrev pub BeginsGood : (List ℕ → FileState → Type 0) → Question → Indexed → Option (List ℕ) → Option (List ℕ) → Type 0
BeginsGood finds Verify index old new = AppendsPrefix old new (codes "yes\n")
BeginsGood finds (Lookup positions) index old new =
    OfUnits index (λ selection. AppendsPrefix old new (flat_map (lookup_line index selection) positions.items))
BeginsGood finds Files index old new = AppendsPrefix old new (files_text index)
BeginsGood finds Md5 index old new = AreSumsBegun finds index (listed_files index) old new
BeginsGood finds (Table version) index old new = OfUnits index (λ selection. BeginsTableOfUnits version selection old new)
BeginsGood finds (TableByPath true) index old new = BeginsPathTableText Three index old new
BeginsGood finds (TableByPath false) index old new = BeginsPathTableText Four index old new

-- A prefix of the answer for a good section with this index and another file, of these bytes. Lines that weren't read yet count among
-- those of that file.
abbrev pub BeginsGoodFile : FileQuestion → Option (List ℕ) → Indexed → Option (List ℕ) → Option (List ℕ) → Type 0
BeginsGoodFile (Lines op) bytes index old new = AreAddressesBegun index op bytes old new
BeginsGoodFile (Check all ends partial at_least any_copy) bytes index old new = OfThese any_copy index (λ selection. IfSome bytes
    (λ text. AreStretchesBegun (report_in ends partial at_least any_copy) index selection text old new))

-- A prefix of the answer for a section with this judgement.
abbrev pub BeginsJudged : (Indexed → Option (List ℕ) → Option (List ℕ) → Type 0) → Option (List ℕ) → Option (List ℕ) → JudgedIndex
    → Type 0
BeginsJudged BeginsOfGood old new (Good index) = BeginsOfGood index old new
BeginsJudged BeginsOfGood old new (Bad reason) = AppendsPrefix old new (no_text reason ++ codes "\n")
