-- The answer for a file that is read and isn't judged, and its prefixes. No public contract speaks of it.
--     known       the file's bytes, where these are known
--     old, new    what the writer of the answer holds before and afterwards
use Rattle.std.specs.Prelude.{ℕ, IfSome, List, Option}
use Rattle.lnt_io.specs.declared.status.Status.{Status}
use Rattle.lnt_symbols.specs.SymbolTables.{BeginsPrinted, HasPrinted, symbol_answers}
use Rattle.lnt_cli.specs.Questions.{AnswersReading, BeginsReading}
use Rattle.lnt_cli.specs.declared.reading.Printing.{Printing}
use Rattle.lnt_cli.specs.declared.reading.Printing.TheVariants.{Section, Symbols}

-- The answer was written.
abbrev pub AnswersPrinting : Printing → Option (List ℕ) → Option (List ℕ) → Option (List ℕ) → Status → Type 0
AnswersPrinting (Section order reading) known old new status = AnswersReading order reading known old new status
AnswersPrinting (Symbols base) known old new status = IfSome known (λ bytes. HasPrinted (symbol_answers base bytes) old new status)

-- A prefix of it was written.
abbrev pub BeginsPrinting : Printing → Option (List ℕ) → Option (List ℕ) → Option (List ℕ) → Type 0
BeginsPrinting (Section order reading) known old new = BeginsReading order reading known old new
BeginsPrinting (Symbols base) known old new = IfSome known (λ bytes. BeginsPrinted (symbol_answers base bytes) old new)
