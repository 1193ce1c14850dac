-- The text of a stop, as its type prints it.
use Rattle.std.specs.Prelude.{ℕ, List, codes}
use Rattle.lnt_io.specs.declared.stop.Stop.{Stop}
use Rattle.lnt_io.specs.declared.stop.Stop.TheVariants as stop
use Rattle.lnt_io.specs.declared.io_stop.IoStop.{IoStop}
use Rattle.lnt_io.specs.declared.io_stop.IoStop.TheVariants.{Memory, Read, TooLong, Write}

-- why the work on the bytes of a source stopped
abbrev pub stop_text : Stop → List ℕ
stop_text stop.Memory = codes "out of memory"
stop_text stop.Read = codes "cannot read"
stop_text stop.TooLong = codes "too long"

-- ---- the texts that say why the work on a file stopped

-- why the work on a file was stopped
abbrev pub io_stop_text : IoStop → List ℕ
io_stop_text Read = codes "cannot read"
io_stop_text TooLong = codes "too long"
io_stop_text Write = codes "cannot write"
io_stop_text Memory = codes "out of memory"
