-- Files that the opener refused.
use Rattle.std.proofs.Common.{ℕ, List, ◌⊎◌, Result, Ok, Err, inl, inr}
use Rattle.lnt_io.specs.Files.{FileState, RefusesOnly}
use Rattle.lnt_io.specs.declared.status.Status.{Status}
use Rattle.lnt_words.specs.Words.{IsAskedBy}
use Rattle.lnt_words.specs.declared.request.Asked.{Asked}
use Rattle.lnt_cli.specs.Runs.{IsUnreadableIn, NameUnreadable}
use Rattle.lnt_cli.specs.Stops.{IsNamedUnreadable, IsUnreadable, run_stop}
use Rattle.lnt_cli.specs.declared.stop.CliStop.{CliStop}
use Rattle.lnt_cli.specs.declared.stop.FileStop.{FileStop}
use Rattle.lnt_cli.specs.declared.stop.FileStop.TheVariants as answer
use Rattle.lnt_cli.proofs.RunLemmas.{IsEndOf}

unreadable_told : (stop : FileStop) (name : List ℕ) → IsUnreadable stop name → IsUnreadableIn (run_stop stop) name
unreadable_told (answer.Read file) name is = is
unreadable_told (answer.TooLong file) name is = absurd is
unreadable_told answer.Write name is = absurd is
unreadable_told answer.Memory name is = absurd is

-- The answer's stop tells an unreadable file, or the answer may: so does the run's, or the answer to the words.
told_by_run : (finds : List ℕ → FileState → Type 0) (words : List (List ℕ)) (asked : Asked) (ended : Result Status FileStop)
    (run : Result Status CliStop) (name : List ℕ) → IsEndOf ended run → IsAskedBy words asked
    → IsNamedUnreadable finds asked.request ended name → NameUnreadable finds words run name
told_by_run finds words asked (Ok status) run name is is_asked (inl refuses) = absurd refuses
told_by_run finds words asked (Err stop) (Ok status) name is is_asked (inl refuses) = absurd is
told_by_run finds words asked (Err stop) (Err halted) name is is_asked (inl refuses) = rw is (inl (unreadable_told stop name refuses))
told_by_run finds words asked ended run name is is_asked (inr may) = inr (asked, is_asked, may)

before_or_told : {Old : Type 0} (finds : List ℕ → FileState → Type 0) (words : List (List ℕ)) (asked : Asked)
    (ended : Result Status FileStop) (run : Result Status CliStop) (name : List ℕ) → IsEndOf ended run → IsAskedBy words asked
    → Old ⊎ IsNamedUnreadable finds asked.request ended name → Old ⊎ NameUnreadable finds words run name
before_or_told finds words asked ended run name is is_asked (inl before) = inl before
before_or_told finds words asked ended run name is is_asked (inr refuses) =
    inr (told_by_run finds words asked ended run name is is_asked refuses)

-- the same of each file that was refused
pub run_told : (finds : List ℕ → FileState → Type 0) (words : List (List ℕ)) (asked : Asked) (ended : Result Status FileStop)
    (run : Result Status CliStop) (old new : List ℕ → Type 0) → IsEndOf ended run → IsAskedBy words asked
    → RefusesOnly (IsNamedUnreadable finds asked.request ended) old new → RefusesOnly (NameUnreadable finds words run) old new
run_told finds words asked ended run old new is is_asked refuses name refused =
    before_or_told finds words asked ended run name is is_asked (refuses name refused)
