-- The answer of a run to its words. The first word is the program's own name.
--     tells       what the opener may say of the file with a name, as the run begins
--     old, new    what the writer of the answer holds before and afterwards
use Rattle.std.specs.Prelude.{◌≡◌, ◌⊎◌, ℕ, IsErrAnd, List, Option, Result, string_bytes}
use Rattle.std.specs.Io.KnownBytes.{Keeps}
use Rattle.lnt_io.specs.Files.{FileState}
use Rattle.lnt_io.specs.declared.status.Status.{Status}
use Rattle.lnt_words.specs.Words.{AskForNothing, IsAskedBy}
use Rattle.lnt_words.specs.declared.request.Asked.{Asked}
use Rattle.lnt_words.specs.declared.request.Request.{Request}
use Rattle.lnt_cli.specs.Answered.{IsAnswered}
use Rattle.lnt_cli.specs.Stops.{IsStopped, IsFileIn, MayAnswerUnreadable, NamesOneOf, TellsFile}
use Rattle.lnt_cli.specs.declared.stop.CliStop.{CliStop}
use Rattle.lnt_cli.specs.declared.stop.CliStop.TheVariants.{Usage, Read, TooLong, Write, Memory}
use Rattle.lnt_cli.specs.declared.stop.FileStop.{FileStop}
use Rattle.lnt_cli.specs.declared.stop.FileStop.TheVariants as answer

-- The words ask for a request, and this holds of it.
abbrev pub AskForOne : List (List ℕ) → (Request → Type 0) → Type 0
AskForOne words IsSo = (asked : Asked) × IsAskedBy words asked × IsSo asked.request

-- The words ask for a request, and the text that was written and the status are its answer.
abbrev pub AnswersWords : (List ℕ → FileState → Type 0) → List (List ℕ) → Option (List ℕ) → Option (List ℕ) → Status → Type 0
AnswersWords finds words old new status = AskForOne words (λ request. IsAnswered finds request old new status)

-- The words ask for a request, and it names this file.
abbrev pub NameFile : List (List ℕ) → List ℕ → Type 0
NameFile words name = AskForOne words (λ request. IsFileIn request name)

-- Why the run was stopped, but for words that ask for nothing. A file that can't be read or is too long is one that they name, and is
-- so; and nothing was written, or no more than may be where the answer to their request is stopped.
abbrev pub IsAnswerStop : (List ℕ → FileState → Type 0) → List (List ℕ) → Option (List ℕ) → Option (List ℕ) → FileStop → Type 0
IsAnswerStop finds words old new stop =
    NamesOneOf (NameFile words) stop × TellsFile finds stop × (Keeps old new ⊎ AskForOne words (λ request. IsStopped finds request old new))

-- Why the run was stopped. With Usage the words ask for nothing, and nothing was written.
abbrev pub IsStopOf : (List ℕ → FileState → Type 0) → List (List ℕ) → Option (List ℕ) → Option (List ℕ) → CliStop → Type 0
IsStopOf finds words old new (Usage text) = AskForNothing words × Keeps old new
IsStopOf finds words old new (Read name) = IsAnswerStop finds words old new (answer.Read name)
IsStopOf finds words old new (TooLong name) = IsAnswerStop finds words old new (answer.TooLong name)
IsStopOf finds words old new Write = IsAnswerStop finds words old new answer.Write
IsStopOf finds words old new Memory = IsAnswerStop finds words old new answer.Memory

-- the run was stopped since the file with this name can't be read
abbrev pub IsUnreadableIn : CliStop → List ℕ → Type 0
IsUnreadableIn (Read file) name = string_bytes file ≡ name
IsUnreadableIn stop name = ⊥

-- That the file with this name can't be read is told by the stop of the run, or may be told by the answer to the words.
abbrev pub NameUnreadable : (List ℕ → FileState → Type 0) → List (List ℕ) → Result Status CliStop → List ℕ → Type 0
NameUnreadable finds words ended name =
    IsErrAnd ended (λ stop. IsUnreadableIn stop name) ⊎ AskForOne words (MayAnswerUnreadable finds)
