-- Why the work on a file stopped.
use Rattle.lnt_io.specs.declared.stop.Stop.{Stop}
use Rattle.lnt_io.specs.declared.stop.Stop.TheVariants.{Memory as SourceMemory, Read as SourceRead, TooLong as SourceTooLong}
use Rattle.lnt_io.specs.declared.io_stop.IoStop.{IoStop}
use Rattle.lnt_io.specs.declared.io_stop.IoStop.TheVariants.{Memory, Read, TooLong, Write}

-- the same of a source's stop
abbrev pub io_stop_of_source : Stop → IoStop
io_stop_of_source SourceMemory = Memory
io_stop_of_source SourceRead = Read
io_stop_of_source SourceTooLong = TooLong

-- opening can end like this
abbrev pub IsOpening : IoStop → Type 0
IsOpening Read = Unit {0}
IsOpening Memory = Unit {0}
IsOpening _ = ⊥

-- printing can end like this
abbrev pub IsPrinting : IoStop → Type 0
IsPrinting Write = Unit {0}
IsPrinting Memory = Unit {0}
IsPrinting _ = ⊥
