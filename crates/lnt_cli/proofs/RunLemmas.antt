-- How runs end.
use Rattle.std.proofs.Common.{◌≡◌, ◌≢◌, ℕ, List, Option, Result, Ok, Err, IfErr, IfOk, IsErrAnd, MatchResult, OnErr, inl, inr}
use Rattle.std.specs.Io.KnownBytes.{Keeps}
use Rattle.lnt_io.specs.Files.{FileState}
use Rattle.lnt_io.specs.declared.status.Status.{Status}
use Rattle.lnt_words.specs.Words.{AskForNothing, IsAskedBy}
use Rattle.lnt_words.specs.declared.request.Asked.{Asked}
use Rattle.lnt_words.specs.declared.stop.WordsStop.{WordsStop}
use Rattle.lnt_words.specs.declared.stop.WordsStop.TheVariants.{Memory}
use Rattle.lnt_cli.specs.Answered.{IsAnswered}
use Rattle.lnt_cli.specs.Runs.{AnswersWords, AskForOne, IsAnswerStop, IsStopOf}
use Rattle.lnt_cli.specs.Stops.{IsFileIn, IsOfWords, IsStopped, NamesOneOf, TellsFile, run_stop}
use Rattle.lnt_cli.specs.declared.stop.CliStop.{CliStop}
use Rattle.lnt_cli.specs.declared.stop.CliStop.TheVariants as run
use Rattle.lnt_cli.specs.declared.stop.FileStop.{FileStop}
use Rattle.lnt_cli.specs.declared.stop.FileStop.TheVariants as answer

-- Words that aren't a request stop the run.
pub words_refused : (finds : List ℕ → FileState → Type 0) (words : List (List ℕ)) (old new : Option (List ℕ)) (stop : WordsStop)
    (found : CliStop) → IsOfWords stop found → (stop ≢ Memory → AskForNothing words) → Keeps old new
    → IsStopOf finds words old new found
words_refused finds words old new stop (run.Usage text) is refused kept = (refused is, kept)
words_refused finds words old new stop (run.Read name) is refused kept = absurd cc
words_refused finds words old new stop (run.TooLong name) is refused kept = absurd cc
words_refused finds words old new stop run.Write is refused kept = absurd cc
words_refused finds words old new stop run.Memory is refused kept = ((λ name named. absurd named), tt, inl kept)

-- how a run ends whose answer ended so
abbrev pub IsEndOf : Result Status FileStop → Result Status CliStop → Type 0
IsEndOf ended ran = MatchResult ended (λ status. ran ≡ Ok status) (λ stop. IsErrAnd ran (λ found. found ≡ run_stop stop))

-- The run is stopped as the answer was.
answer_stopped : (finds : List ℕ → FileState → Type 0) (words : List (List ℕ)) (old new : Option (List ℕ)) (stop : FileStop)
    → IsAnswerStop finds words old new stop → IsStopOf finds words old new (run_stop stop)
answer_stopped finds words old new (answer.Read name) is = is
answer_stopped finds words old new (answer.TooLong name) is = is
answer_stopped finds words old new answer.Write is = is
answer_stopped finds words old new answer.Memory is = is

-- The answer to the request is the answer to the words.
pub words_answered : (finds : List ℕ → FileState → Type 0) (words : List (List ℕ)) (asked : Asked) (old new : Option (List ℕ))
    (ended : Result Status FileStop) (ran : Result Status CliStop) → IsEndOf ended ran → IsAskedBy words asked
    → IfOk ended (IsAnswered finds asked.request old new) → IfOk ran (AnswersWords finds words old new)
words_answered finds words asked old new (Ok status) run is is_asked so = rw is (asked, is_asked, so)
words_answered finds words asked old new (Err stop) (Ok status) is is_asked so = absurd is
words_answered finds words asked old new (Err stop) (Err found) is is_asked so = tt

-- the same where that answer was stopped
pub words_stopped : (finds : List ℕ → FileState → Type 0) (words : List (List ℕ)) (asked : Asked) (old new : Option (List ℕ))
    (ended : Result Status FileStop) (ran : Result Status CliStop) → IsEndOf ended ran → IsAskedBy words asked
    → IfErr ended (NamesOneOf (IsFileIn asked.request)) → IfErr ended (TellsFile finds)
    → OnErr ended (IsStopped finds asked.request old new) → IfErr ran (IsStopOf finds words old new)
words_stopped finds words asked old new (Ok status) run is is_asked named long stopped = rw is tt
words_stopped finds words asked old new (Err stop) (Ok status) is is_asked named long stopped = tt
words_stopped finds words asked old new (Err stop) (Err found) is is_asked named long stopped =
    rw is (answer_stopped finds words old new stop (
      (λ name is_found. (asked, is_asked, named name is_found)),
      long,
      inr (asked, is_asked, stopped),
    ))
