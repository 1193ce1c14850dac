-- The exit status with which the process ends.
use Rattle.std.specs.Prelude.{ℕ, Result, Ok, Err}
use Rattle.lnt_io.specs.declared.status.Status.{Status}
use Rattle.lnt_io.specs.declared.status.Status.TheVariants.{Done, No}
use Rattle.lnt_cli.specs.declared.stop.CliStop.{CliStop}
use Rattle.lnt_cli.specs.declared.stop.CliStop.TheVariants.{Usage, Read, TooLong, Write, Memory}

-- 0 if all was done or the answer is yes, 1 if it is no; for a stop, 2 if the words aren't a valid request, 3 if a file or the
-- output failed, and 4 if memory ran out
abbrev pub status_of : Result Status CliStop → ℕ
status_of (Ok Done) = 0
status_of (Ok No) = 1
status_of (Err (Usage text)) = 2
status_of (Err (Read name)) = 3
status_of (Err (TooLong name)) = 3
status_of (Err Write) = 3
status_of (Err Memory) = 4
