-- How a run was stopped, and the files that a request names.
use Rattle.std.specs.Prelude.{◌≡◌, ◌≢◌, ◌⊎◌, ◌+◌, ℕ, IfSome, IsErrAnd, List, Option, Result, Some, string_bytes}
use Rattle.std.specs.Prelude.{Bool, option_copied, false}
use Rattle.lnt_io.specs.Files.{FileState, IsTooLongFile, IsUnreadFile, Readable, RefusesOnly}
use Rattle.lnt_io.specs.Stopping.{IsFoundTooLong}
use Rattle.lnt_io.specs.declared.source.Source.{Ghosts}
use Rattle.lnt_io.specs.declared.io_stop.IoStop.{IoStop}
use Rattle.lnt_io.specs.declared.io_stop.IoStop.TheVariants as io_stop
use Rattle.lnt_words.specs.declared.request.FileQuestion.{FileQuestion}
use Rattle.lnt_words.specs.declared.request.FileQuestion.TheVariants.{Check}
use Rattle.lnt_words.specs.declared.request.Judging.{Judging}
use Rattle.lnt_words.specs.declared.request.Question.{Question}
use Rattle.lnt_words.specs.declared.request.Question.TheVariants.{Md5}
use Rattle.lnt_words.specs.declared.request.Request.{Request}
use Rattle.lnt_words.specs.declared.request.Request.TheVariants.{Help, Read as ReadSection, Upgrade, Symbols, Judge, JudgeWith}
use Rattle.lnt_words.specs.declared.request.Upgrading.{Upgrading}
use Rattle.lnt_words.specs.declared.stop.WordsStop.{WordsStop}
use Rattle.lnt_words.specs.declared.stop.WordsStop.TheVariants as words
use Rattle.lnt_cli.specs.declared.stop.CliStop.{CliStop}
use Rattle.lnt_cli.specs.declared.stop.CliStop.TheVariants as run
use Rattle.lnt_cli.specs.declared.stop.FileStop.{FileStop}
use Rattle.lnt_cli.specs.declared.stop.FileStop.TheVariants.{Read, TooLong, Write, Memory}
use Rattle.std.specs.Io.KnownBytes.{Keeps}
use Rattle.lnt_io.specs.Prefixes.{AppendsPrefix, HasBegun}
use Rattle.lnt_wire.specs.declared.format.Order.{Order}
use Rattle.lnt_spans.specs.declared.scope.Scope.{Scope}
use Rattle.lnt_spans.specs.Partial.{scope_in}
use Rattle.lnt_words.specs.Words.{size_bytes}
use Rattle.lnt_words.specs.declared.request.Reading.{Reading}
use Rattle.lnt_dump.specs.Printed.{IsUpgradeBegun}
use Rattle.lnt_symbols.specs.SymbolTables.{BeginsPrinted, symbol_answers}
use Rattle.lnt_cli.specs.Answered.{IsChecked, IsJudgedSo, IsOfBytes, IsOfFile, IsOfSection, IsOfUpgrade}
use Rattle.lnt_cli.specs.Questions.{BeginsGood, BeginsGoodFile, BeginsJudged, BeginsReading, asks_copies}

-- how a run stops whose words aren't a request
abbrev pub IsOfWords : WordsStop → CliStop → Type 0
IsOfWords stop (run.Usage text) = stop ≢ words.Memory
IsOfWords stop found = found ≡ run.Memory

-- how a run stops whose answer was stopped so
abbrev pub run_stop : FileStop → CliStop
run_stop (Read name) = run.Read name
run_stop (TooLong name) = run.TooLong name
run_stop Write = run.Write
run_stop Memory = run.Memory

-- the file with this name can't be read, or is too long
abbrev pub NamesFile : FileStop → List ℕ → Type 0
NamesFile (Read file) name = string_bytes file ≡ name
NamesFile (TooLong file) name = string_bytes file ≡ name
NamesFile _ name = ⊥

-- a file that the stop tells is one of these
abbrev pub NamesOneOf : (List ℕ → Type 0) → FileStop → Type 0
NamesOneOf AreNamed stop = (name : List ℕ) → NamesFile stop name → AreNamed name

-- a file of the section that is judged: its own, or one of its strings
abbrev pub IsFileOf : Judging → List ℕ → Type 0
IsFileOf from name = (from.section.now ≡ name) ⊎ (option_copied from.line_strings ≡ Some name) ⊎ (option_copied from.strings ≡ Some name)

-- one of these, or another file
abbrev pub IsFileOfBoth : Judging → List ℕ → List ℕ → Type 0
IsFileOfBoth from file name = IsFileOf from name ⊎ (file ≡ name)

-- a file of the section that is written anew: its own, or that of the directories
abbrev pub IsFileOfUpgrade : Upgrading → List ℕ → Type 0
IsFileOfUpgrade from name = (from.section.now ≡ name) ⊎ (option_copied from.directories ≡ Some name)

-- a file of the request
abbrev pub IsFileIn : Request → List ℕ → Type 0
IsFileIn (Help text) name = ⊥
IsFileIn (ReadSection section order reading) name = section.now ≡ name
IsFileIn (Upgrade from) name = IsFileOfUpgrade from name
IsFileIn (Symbols file base) name = file.now ≡ name
IsFileIn (Judge from question) name = IsFileOf from name
IsFileIn (JudgeWith from file question) name = IsFileOfBoth from file.now name

-- ---- files that couldn't be read, or are too long

-- The file that a stop tells is one that failed, or one that is too long.
abbrev pub IsOfCause : (List ℕ → Type 0) → (List ℕ → Type 0) → FileStop → Type 0
IsOfCause HasFailed IsLong (Read file) = HasFailed (string_bytes file)
IsOfCause HasFailed IsLong (TooLong file) = IsLong (string_bytes file)
IsOfCause HasFailed IsLong _ = Unit {0}

-- A file that the stop tells as unreadable can't be opened, or a read of it failed; and one that it tells as too long has more than
-- 2^40 bytes, if its bytes are known.
abbrev pub TellsFile : (List ℕ → FileState → Type 0) → FileStop → Type 0
TellsFile finds = IsOfCause (λ name. IsUnreadFile (finds name)) (λ name. IsTooLongFile (finds name))

-- ---- files that the opener refused

-- the stop says that the file with this name can't be read
abbrev pub IsUnreadable : FileStop → List ℕ → Type 0
IsUnreadable (Read file) name = string_bytes file ≡ name
IsUnreadable _ name = ⊥

-- A file that was refused meanwhile stops the work, and the stop says that this file can't be read.
abbrev pub StopsIfRefused : {T : Type 0} → Result T FileStop → (List ℕ → Type 0) → (List ℕ → Type 0) → Type 0
StopsIfRefused ended old new = RefusesOnly (λ name. IsErrAnd ended (λ stop. IsUnreadable stop name)) old new

-- The question asks for the listed sums, and the section was opened: then the answer says which of the listed files can't be read.
abbrev pub AnswersUnreadable : (List ℕ → FileState → Type 0) → Judging → Question → Type 0
AnswersUnreadable finds from Md5 = (bytes : Option (List ℕ)) × finds from.section.now (Readable bytes)
AnswersUnreadable finds from _ = ⊥

-- the same of a request
abbrev pub MayAnswerUnreadable : (List ℕ → FileState → Type 0) → Request → Type 0
MayAnswerUnreadable finds (Judge from question) = AnswersUnreadable finds from question
MayAnswerUnreadable finds _ = ⊥

-- That the file with this name can't be read is told by the stop of the answer to this request, or may be told by the answer.
abbrev pub IsNamedUnreadable : {T : Type 0} → (List ℕ → FileState → Type 0) → Request → Result T FileStop → List ℕ → Type 0
IsNamedUnreadable finds request ended name = IsErrAnd ended (λ stop. IsUnreadable stop name) ⊎ MayAnswerUnreadable finds request

-- ---- what bodies say of stops; no public contract speaks of it

-- The stop of a run if the work on the file with this name was stopped.
abbrev pub IsFileStop : IoStop → List ℕ → FileStop → Type 0
IsFileStop io_stop.Read name stop = IsUnreadable stop name
IsFileStop io_stop.TooLong name (TooLong file) = string_bytes file ≡ name
IsFileStop io_stop.TooLong name stop = ⊥
IsFileStop io_stop.Write name stop = stop ≡ Write
IsFileStop io_stop.Memory name stop = stop ≡ Memory

-- The file that is told (told) is the source's (name), for this reason. The source was before the work (old) and is after it (new), and
-- is of the same file as before.
pub record IsToldFor {R : Type 0} (source : Ghosts R) (old new : R) (name told : List ℕ) (Reason : Type 0) : Type 0 where
  pub named : name ≡ told
  pub same : source.name new ≡ source.name old
  pub reason : Reason

-- since one more read of the source failed
abbrev pub IsToldUnread : {R : Type 0} → Ghosts R → R → R → List ℕ → List ℕ → Type 0
IsToldUnread source old new name told = IsToldFor source old new name told (source.failures new ≡ source.failures old + 1)

-- since it was found to have more bytes than it may give
abbrev pub IsToldLong : {R : Type 0} → Ghosts R → R → R → List ℕ → List ℕ → Type 0
IsToldLong source old new name told =
    IsToldFor source old new name told (IsFoundTooLong (source.too_long new) (source.remaining old) (source.left old))

-- The stop names the source's file (name), since a read of it failed, or since it was found too long.
abbrev pub IsCausedBy : {R : Type 0} → Ghosts R → R → R → List ℕ → FileStop → Type 0
IsCausedBy source old new name = IsOfCause (IsToldUnread source old new name) (IsToldLong source old new name)

-- the same of the work on one source and then on another one
abbrev pub IsCausedByEither : {R T : Type 0} → Ghosts R → R → R → List ℕ → Ghosts T → T → T → List ℕ → FileStop → Type 0
IsCausedByEither first old new name second was is other = IsOfCause
    (λ file. IsToldUnread first old new name file ⊎ IsToldUnread second was is other file)
    (λ file. IsToldLong first old new name file ⊎ IsToldLong second was is other file)

-- ---- what was written if the answer to a request was stopped: nothing, or a prefix of an answer
--     tells       what the opener may say of the file with a name, as the run begins
--     old, new    what that writer holds before and afterwards

-- ---- sections that are judged

-- The judgement of the section in the named file is true, and a prefix of the answer to the question was written.
abbrev pub BeginsQuestion : (List ℕ → FileState → Type 0) → Judging → Question → Option (List ℕ) → Option (List ℕ) → Type 0
BeginsQuestion finds from question old new =
    IsOfSection finds from (IsJudgedSo false from (BeginsJudged (BeginsGood finds question) old new))

-- a prefix of the answer to a check, of a table with these bytes (text)
abbrev pub BeginsChecked : Judging → Bool → Scope → ℕ → Option (List ℕ) → Option (List ℕ) → Option (List ℕ) → List ℕ → List ℕ
    → Option (List ℕ) → Type 0
BeginsChecked from any_copy scope at_least old new text line general section =
    HasBegun (λ end status. IsChecked from any_copy scope at_least old end status text line general section) old new

-- a prefix of the answer to a question about the section and another file, of these bytes
abbrev pub BeginsWith : Judging → FileQuestion → Option (List ℕ) → Option (List ℕ) → Option (List ℕ) → List ℕ → List ℕ
    → Option (List ℕ) → Type 0
BeginsWith from (Check false ends partial at_least any_copy) old new bytes line general section =
    BeginsChecked from any_copy (scope_in partial) at_least old new bytes line general section
BeginsWith from question old new bytes line general section =
    IsJudgedSo (asks_copies question) from (BeginsJudged (BeginsGoodFile question bytes) old new) line general section

-- A prefix of the answer to the question about the section and the file with this name was written.
abbrev pub BeginsFile : (List ℕ → FileState → Type 0) → Judging → List ℕ → FileQuestion → Option (List ℕ) → Option (List ℕ) → Type 0
BeginsFile finds from file question old new = IsOfFile finds from file (BeginsWith from question old new)

-- ---- sections that are read

-- A prefix of the answer of this reading was written, for the section in the named file.
abbrev pub StopsRead : (List ℕ → FileState → Type 0) → List ℕ → Order → Reading → Option (List ℕ) → Option (List ℕ) → Type 0
StopsRead finds section order reading old new =
    IsOfBytes finds section (λ known. BeginsReading order reading known old new)

-- A prefix of the section with its older units anew, or of the line that says why there is none, was written.
abbrev pub StopsUpgrade : (List ℕ → FileState → Type 0) → Upgrading → Option (List ℕ) → Option (List ℕ) → Type 0
StopsUpgrade finds from old new =
    IsOfUpgrade finds from (λ bytes text. IsUpgradeBegun from.order (size_bytes from.address_size) bytes text old new)

-- ---- symbol files

-- A prefix of the table of the symbol file with this name, or of the line of its first fault, was written.
abbrev pub StopsSymbols : (List ℕ → FileState → Type 0) → List ℕ → ℕ → Option (List ℕ) → Option (List ℕ) → Type 0
StopsSymbols finds file base old new =
    IsOfBytes finds file (λ known. IfSome known (λ bytes. BeginsPrinted (symbol_answers base bytes) old new))

-- ---- requests

-- What was written if the answer to this request was stopped.
abbrev pub IsStopped : (List ℕ → FileState → Type 0) → Request → Option (List ℕ) → Option (List ℕ) → Type 0
IsStopped finds (Help text) old new = AppendsPrefix old new (string_bytes text)
IsStopped finds (ReadSection section order reading) old new = Keeps old new ⊎ StopsRead finds section.now order reading old new
IsStopped finds (Upgrade from) old new = Keeps old new ⊎ StopsUpgrade finds from old new
IsStopped finds (Symbols file base) old new = Keeps old new ⊎ StopsSymbols finds file.now base old new
IsStopped finds (Judge from question) old new = Keeps old new ⊎ BeginsQuestion finds from question old new
IsStopped finds (JudgeWith from file question) old new = Keeps old new ⊎ BeginsFile finds from file.now question old new
