-- What a symbol file answers at each address of a loaded program, and what is printed of it.
use Rattle.std.specs.Prelude.{ℕ, ◌-◌, ◌^◌, nat_lt, List, ◌∷◌, [], ◌++◌, if◌then◌else◌, Option, None, Some, Result, Ok, Err}
use Rattle.std.specs.Io.KnownBytes.{Appends}
use Rattle.lnt_io.specs.Prefixes.{AppendsPrefix}
use Rattle.lnt_io.specs.declared.status.Status.{Status}
use Rattle.lnt_io.specs.declared.status.Status.TheVariants.{Done, No}
use Rattle.lnt_spans.specs.declared.position.Position.{Position}
use Rattle.lnt_records.specs.PathSpans.{PathAnswer}
use Rattle.lnt_records.specs.declared.path_records.version.PathVersion.TheVariants.{Four}
use Rattle.lnt_writing.specs.Canonical.{BeginsPathTable, IsCanonicalPathTable}
use Rattle.lnt_gsym.specs.GsymAnswers.{gsym_answer}
use Rattle.lnt_gsym.specs.GsymFiles.{gsym_of, order_of}
use Rattle.lnt_wire.specs.declared.format.Order.{Order}
use Rattle.lnt_symbols.specs.BreakpadAnswers.{answer_at, records_of}
use Rattle.lnt_symbols.specs.FaultTexts.{symbol_fault_text}
use Rattle.lnt_symbols.specs.declared.fault.SymbolFault.{SymbolFault}
use Rattle.lnt_symbols.specs.declared.fault.SymbolFault.TheVariants.{Gsym}

-- an answer at each address, if there is one
abbrev pub Answers : Type 0
Answers = ℕ → Option PathAnswer

-- The answers of a file whose address 0 is loaded at `base`.
abbrev pub loaded_at : ℕ → Answers → Answers
loaded_at base answers a = if nat_lt a base then None else answers (a - base)

-- What the bytes of a Breakpad file answer if it is loaded at `base`, or what is wrong with them first.
abbrev pub breakpad_answers : ℕ → List ℕ → Result Answers SymbolFault
breakpad_answers base bytes = elim (records_of bytes) [ Err fault ↦ Err fault | Ok records ↦ Ok (loaded_at base (answer_at records)) ]

-- What the bytes of a GSYM file answer, whose numbers have this order, or what is wrong with them first.
abbrev pub gsym_answers : Order → List ℕ → Result Answers SymbolFault
gsym_answers order bytes = elim (gsym_of order bytes) [ Err fault ↦ Err (Gsym fault) | Ok gsym ↦ Ok (gsym_answer gsym) ]

-- The same of a symbol file: it is a GSYM file if its first number says so, and else a Breakpad file. A GSYM file has a base of its own.
abbrev pub symbol_answers : ℕ → List ℕ → Result Answers SymbolFault
symbol_answers base bytes = elim (order_of bytes) [ Some order ↦ gsym_answers order bytes | None ↦ breakpad_answers base bytes ]

-- The answers as a table has them: at each position of an address, and at no address above 2^64 - 2, since the end of a span has 64 bits.
abbrev pub answers_in_table : Answers → Position → Option PathAnswer
answers_in_table answers p = if nat_lt p.address (2 ^ 64 - 1) then answers p.address else None

-- the line that says what is wrong
abbrev pub symbol_fault_line : SymbolFault → List ℕ
symbol_fault_line fault = symbol_fault_text fault ++ 10 ∷ []

-- What was appended to a writer that held these bytes is the canonical table of these answers, in version 4; or, if there are none, the
-- line that says why.
abbrev pub HasPrinted : Result Answers SymbolFault → Option (List ℕ) → Option (List ℕ) → Status → Type 0
HasPrinted (Ok answers) old new Done =
    (bytes : List ℕ) × Appends old new bytes × IsCanonicalPathTable Four (answers_in_table answers) bytes
HasPrinted (Err fault) old new No = Appends old new (symbol_fault_line fault)
HasPrinted _ old new _ = ⊥

-- What a stopped writer has received is a prefix of that table, or of that line.
abbrev pub BeginsPrinted : Result Answers SymbolFault → Option (List ℕ) → Option (List ℕ) → Type 0
BeginsPrinted (Ok answers) old new = BeginsPathTable Four (answers_in_table answers) old new
BeginsPrinted (Err fault) old new = AppendsPrefix old new (symbol_fault_line fault)
