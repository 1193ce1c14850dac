-- What `table` prints for a table by path.
use Rattle.std.specs.Prelude.{ℕ, List, ◌++◌, Option, codes}
use Rattle.std.specs.Io.KnownBytes.{Appends}
use Rattle.lnt_io.specs.Prefixes.{HasBegun}
use Rattle.lnt_io.specs.declared.status.Status.{Status}
use Rattle.lnt_io.specs.declared.status.Status.TheVariants.{Done, No}
use Rattle.lnt_records.specs.declared.path_records.version.PathVersion.{PathVersion}
use Rattle.lnt_records.specs.PathSpans.{PathAnswer}
use Rattle.lnt_writing.specs.Canonical.{HasOperationIndex, IsCanonicalPathTable}
use Rattle.lnt_spans.specs.declared.position.Position.{Position}
use Rattle.lnt_table.specs.FaultTexts.{operation_text}

-- the line that says that a span begins or ends at this position, whose operation index isn't 0
abbrev pub operation_line : Position → List ℕ
operation_line position = operation_text position ++ codes "\n"

-- What was appended to a writer that held these bytes is the table with these answers; or, if there can't be one, the line of
-- the least position that such a table can't express.
abbrev pub IsPrintedTable : PathVersion → (Position → Option PathAnswer) → Option (List ℕ) → Option (List ℕ) → Status → Type 0
IsPrintedTable version answers old new Done = (bytes : List ℕ) × Appends old new bytes × IsCanonicalPathTable version answers bytes
IsPrintedTable version answers old new No =
    (position : Position) × Appends old new (operation_line position) × HasOperationIndex answers position

-- What a stopped writer has received is a prefix of such a table; or, if there can't be one, a prefix of that line.
abbrev pub BeginsPrintedTable : PathVersion → (Position → Option PathAnswer) → Option (List ℕ) → Option (List ℕ) → Type 0
BeginsPrintedTable version answers old new = HasBegun (IsPrintedTable version answers old) old new
