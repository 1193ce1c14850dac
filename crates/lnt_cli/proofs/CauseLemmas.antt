-- Which files stops name, and why.
use Rattle.std.proofs.Common.{◌≡◌, ◌+◌, ◌∙◌, ◌^◌, ◌<◌, ℕ, List, Option, subst, refl, string_bytes, ◌⊎◌, inl, inr}
use Rattle.std.proofs.Common.{Result, Ok, Err, IfErr, IsErrOf, IsTrue, arith}
use Rattle.lnt_io.specs.Files.{FileState, FindsNoMore, IsTooLongFile, IsUnreadFile, Overlong, Readable, Unread, Unreadable}
use Rattle.lnt_io.specs.Pulling.{HasMoreThan}
use Rattle.lnt_io.specs.Stopping.{CountsFailure, IsFoundTooLong}
use Rattle.lnt_io.specs.declared.source.Source.{Ghosts}
use Rattle.lnt_words.specs.declared.request.Judging.{Judging}
use Rattle.lnt_cli.specs.Stops.{IsCausedBy, IsCausedByEither, IsToldFor, IsToldLong, IsToldUnread, TellsFile}
use Rattle.lnt_cli.specs.declared.stop.FileStop.{FileStop}
use Rattle.lnt_cli.specs.declared.stop.FileStop.TheVariants.{Read, TooLong, Write, Memory}

-- ---- files that are told

-- what is known of files later was known before
unread_before : (before later : List ℕ → FileState → Type 0) (name : List ℕ) → FindsNoMore before later
    → IsUnreadFile (later name) → IsUnreadFile (before name)
unread_before before later name less (inl closed) = inl (less name Unreadable closed)
unread_before before later name less (inr cut) = inr (less name Unread cut)

long_before : (before later : List ℕ → FileState → Type 0) (name : List ℕ) → FindsNoMore before later
    → IsTooLongFile (later name) → IsTooLongFile (before name)
long_before before later name less long =
    record {
      overlong = less name Overlong long.overlong;
      found = long.found;
      is_found = less name (Readable long.found) long.is_found;
      more = long.more;
    }

pub told_before : (before later : List ℕ → FileState → Type 0) (stop : FileStop) → FindsNoMore before later
    → TellsFile later stop → TellsFile before stop
told_before before later (Read file) less told = unread_before before later (string_bytes file) less told
told_before before later (TooLong file) less told = long_before before later (string_bytes file) less told
told_before before later Write less told = tt
told_before before later Memory less told = tt

-- The source of the file with this name before the work on it (old) and after it (new).
pub record IsOpenOn {R : Type 0} (finds : List ℕ → FileState → Type 0) (file : List ℕ) (source : Ghosts R) (old new : R) : Type 0 where
  pub name : source.name old ≡ file
  pub found : finds file (Readable (source.remaining old))
  pub left : source.left old ≡ 2 ^ 40
  pub unread : 0 < source.failures new → finds (source.name new) Unread
  pub too_long : IsTrue (source.too_long new) → finds (source.name new) Overlong

-- The name of the source's file is that of the file that was opened.
same_file : {R : Type 0} (IsSo : List ℕ → Type 0) (finds : List ℕ → FileState → Type 0) (file : List ℕ) (source : Ghosts R) (old new : R)
    → IsOpenOn finds file source old new → source.name new ≡ source.name old → IsSo (source.name new) → IsSo file
same_file IsSo finds file source old new opened same so = subst IsSo (same ∙ opened.name) so

failed_once : {R : Type 0} (finds : List ℕ → FileState → Type 0) (file : List ℕ) (source : Ghosts R) (old new : R)
    → IsOpenOn finds file source old new → source.name new ≡ source.name old → source.failures new ≡ source.failures old + 1
    → IsUnreadFile (finds file)
failed_once finds file source old new opened same once =
    inr (same_file (λ name. finds name Unread) finds file source old new opened same (opened.unread (omega (arith, once))))

found_long : {R : Type 0} (finds : List ℕ → FileState → Type 0) (file : List ℕ) (source : Ghosts R) (old new : R)
    → IsOpenOn finds file source old new → source.name new ≡ source.name old
    → IsFoundTooLong (source.too_long new) (source.remaining old) (source.left old) → IsTooLongFile (finds file)
found_long finds file source old new opened same long = record {
  overlong = same_file (λ name. finds name Overlong) finds file source old new opened same (opened.too_long long.is_found);
  found = source.remaining old;
  is_found = opened.found;
  more = subst (λ (count : ℕ). HasMoreThan (source.remaining old) count) opened.left long.more;
}

pub read_failed : {R C E : Type 0} (finds : List ℕ → FileState → Type 0) (file : List ℕ) (source : Ghosts R) (old new : R)
    (answer : Result C E) (stop : E) → CountsFailure source old new answer stop → IsErrOf answer stop
    → IsOpenOn finds file source old new → IsUnreadFile (finds file)
read_failed finds file source old new answer stop counts failed opened =
    failed_once finds file source old new opened counts.name (counts.read failed)

pub found_too_long : {R C E : Type 0} (finds : List ℕ → FileState → Type 0) (file : List ℕ) (source : Ghosts R) (old new : R)
    (answer : Result C E) (stop : E) → CountsFailure source old new answer stop
    → IsFoundTooLong (source.too_long new) (source.remaining old) (source.left old) → IsOpenOn finds file source old new
    → IsTooLongFile (finds file)
found_too_long finds file source old new answer stop counts long opened = found_long finds file source old new opened counts.name long

once_told : {R : Type 0} (finds : List ℕ → FileState → Type 0) (file told : List ℕ) (source : Ghosts R) (old new : R)
    → IsOpenOn finds file source old new → IsToldUnread source old new file told → IsUnreadFile (finds told)
once_told finds file told source old new opened failed =
    rw (← failed.named) (failed_once finds file source old new opened failed.same failed.reason)

long_told : {R : Type 0} (finds : List ℕ → FileState → Type 0) (file told : List ℕ) (source : Ghosts R) (old new : R)
    → IsOpenOn finds file source old new → IsToldLong source old new file told → IsTooLongFile (finds told)
long_told finds file told source old new opened long =
    rw (← long.named) (found_long finds file source old new opened long.same long.reason)

pub told_by_source : {R : Type 0} (finds : List ℕ → FileState → Type 0) (file : List ℕ) (source : Ghosts R) (old new : R) (stop : FileStop)
    → IsCausedBy source old new file stop → IsOpenOn finds file source old new → TellsFile finds stop
told_by_source finds file source old new (Read name) cause opened = once_told finds file (string_bytes name) source old new opened cause
told_by_source finds file source old new (TooLong name) cause opened = long_told finds file (string_bytes name) source old new opened cause
told_by_source finds file source old new Write cause opened = tt
told_by_source finds file source old new Memory cause opened = tt

-- ---- a section and another file

-- what is so of each stop
pub of_stop : {V : Type 0} {IsSo : FileStop → Type 0} (IsThen : FileStop → Type 0) (ended : Result V FileStop) → IfErr ended IsSo
    → ((stop : FileStop) → IsSo stop → IsThen stop) → IfErr ended IsThen
of_stop IsThen (Ok value) so then = tt
of_stop IsThen (Err stop) so then = then stop so

-- a read of one of them failed
either_failed : {R T : Type 0} (finds : List ℕ → FileState → Type 0) (from : Judging) (file told : List ℕ) (first : Ghosts R) (old new : R)
    (second : Ghosts T) (was is : T) → IsOpenOn finds from.section.now first old new → IsOpenOn finds file second was is
    → IsToldUnread first old new from.section.now told ⊎ IsToldUnread second was is file told → IsUnreadFile (finds told)
either_failed finds from file told first old new second was is one other (inl cause) =
    once_told finds from.section.now told first old new one cause
either_failed finds from file told first old new second was is one other (inr cause) =
    once_told finds file told second was is other cause

-- the stop of the work on one of both
pub told_by_either : {R T : Type 0} (finds : List ℕ → FileState → Type 0) (from : Judging) (file : List ℕ) (first : Ghosts R) (old new : R)
    (second : Ghosts T) (was is : T) (stop : FileStop) → IsCausedByEither first old new from.section.now second was is file stop
    → IsOpenOn finds from.section.now first old new → IsOpenOn finds file second was is → TellsFile finds stop
told_by_either finds from file first old new second was is (Read name) cause one other =
    either_failed finds from file (string_bytes name) first old new second was is one other cause
told_by_either finds from file first old new second was is (TooLong name) (inl cause) one other =
    long_told finds from.section.now (string_bytes name) first old new one cause
told_by_either finds from file first old new second was is (TooLong name) (inr cause) one other =
    long_told finds file (string_bytes name) second was is other cause
told_by_either finds from file first old new second was is Write cause one other = tt
told_by_either finds from file first old new second was is Memory cause one other = tt
