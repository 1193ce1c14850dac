-- The spans of a GSYM file, one after another, as the code makes them. No public contract speaks of them.
use Rattle.std.specs.Prelude.{ℕ, zero, suc, ◌+◌, ◌-◌, ◌^◌, ◌==◌, ◌&&◌, Bool, false, true, not, nat_lt, is_some, List, [], ◌∷◌, ◌++◌, None}
use Rattle.std.specs.Prelude.{if◌then◌else◌}
use Rattle.lnt_spans.specs.declared.span.Span.{Span}
use Rattle.lnt_records.specs.PathSpans.{whole}
use Rattle.lnt_gsym.specs.GsymAnswers.{row_answer}
use Rattle.lnt_gsym.specs.GsymFiles.{Gsym}
use Rattle.lnt_gsym.specs.GsymInfos.{Function, Row}
use Rattle.lnt_gsym.specs.declared.gate.Gate.{Gate}

abbrev pub less : ℕ → ℕ → ℕ
less a b = if nat_lt a b then a else b

abbrev pub more : ℕ → ℕ → ℕ
more a b = if nat_lt a b then b else a

-- ---- the spans of rows

abbrev pub row_span : ℕ → ℕ → Row → Span
row_span low high row = record {
  low = whole low;
  high = whole high;
  answer = record { unit = 0; file = row.file; line = row.line; column = 0; is_stmt = false; more = None };
}

-- the span of a row from one address up to another, unless it is empty or the row has no answer
abbrev pub row_part : Bool → ℕ → ℕ → Row → List Span
row_part tells low high row = if nat_lt low high && tells then row_span low high row ∷ [] else []

-- where the first row begins, at most at `high`
abbrev pub up_to : ℕ → List Row → ℕ
up_to high [] = high
up_to high (row ∷ rows) = less row.address high

-- the spans of rows between two addresses, of which some have answers
abbrev pub row_spans : (Row → Bool) → ℕ → ℕ → List Row → List Span
row_spans tells low high [] = []
row_spans tells low high (row ∷ rows) =
    row_part (tells row) (more low row.address) (up_to high rows) row ++ row_spans tells low high rows

-- ---- the line tables of a function

-- A gate says of some line tables whether each has a row of a file at an address, and at those after it below `until`. That of none:
abbrev pub open_gate : Gate
open_gate = record { passes = true; until = 2 ^ 64 - 1 }

-- that of one table, if the rows before these say `passes`
abbrev pub row_gate : Bool → ℕ → List Row → Gate
row_gate passes a [] = record { passes = passes; until = 2 ^ 64 - 1 }
row_gate passes a (row ∷ rows) =
    if nat_lt a row.address then record { passes = passes; until = row.address } else row_gate (not (row.file == 0)) a rows

-- that of the tables of both
abbrev pub both : Gate → Gate → Gate
both gate other = record { passes = gate.passes && other.passes; until = less gate.until other.until }

-- that of a table of these rows too, if there is one
abbrev pub gate_with : ℕ → Gate → Bool → List Row → Gate
gate_with a gate false rows = gate
gate_with a gate true rows = both gate (row_gate false a rows)

-- that of all these tables but the last too, of which these rows are the first if there is one
abbrev pub gate_after : ℕ → Gate → Bool → List Row → List (List Row) → Gate
gate_after a gate has_table rows [] = gate
gate_after a gate has_table rows (next ∷ tables) = gate_after a (gate_with a gate has_table rows) true next tables

-- that of all these tables but the last
abbrev pub gate_at : ℕ → List (List Row) → Gate
gate_at a tables = gate_after a open_gate false [] tables

-- the last table, else this one
abbrev pub last_after : List Row → List (List Row) → List Row
last_after rows [] = rows
last_after rows (next ∷ tables) = last_after next tables

-- ---- the ranges of functions

-- where the first function begins that starts above another, at most at the end of a table
abbrev pub next_above : ℕ → List Function → ℕ
next_above start [] = 2 ^ 64 - 1
next_above start (f ∷ functions) = if nat_lt start f.start then less f.start (2 ^ 64 - 1) else next_above start functions

-- where a function with this start and size ends; 0 if it holds nothing
abbrev pub end_of : ℕ → ℕ → ℕ
end_of start size = if size == 0 then 2 ^ 64 - 1 else if nat_lt (start + size) (2 ^ 64) then start + size else 0

-- where it ends to answer
abbrev pub high_of : Function → List Function → ℕ
high_of f later = less (end_of f.start f.size) (next_above f.start later)

-- what is covered after it, if what stands below `covered` was before
abbrev pub covered_after : ℕ → ℕ → ℕ → ℕ
covered_after covered low high = if nat_lt low high then high else covered

abbrev pub tells : Gsym → Row → Bool
tells gsym row = is_some (row_answer gsym row)

-- the spans of the last table between two addresses, as far as the gate of the others at the first one holds
abbrev pub piece : (Row → Bool) → Gate → ℕ → ℕ → List Row → List Span
piece tells gate low high rows = row_spans tells low (less gate.until high) (if gate.passes then rows else [])

-- the spans of all these tables between two addresses
--     room   no fewer than the addresses between
abbrev pub table_spans : ℕ → (Row → Bool) → ℕ → ℕ → List (List Row) → List Span
table_spans zero tells low high tables = []
table_spans (suc room) tells low high tables = if nat_lt low high then piece tells (gate_at low tables) low high (last_after [] tables)
    ++ table_spans room tells (less (gate_at low tables).until high) high tables else []

-- the spans of a function between two addresses
abbrev pub function_spans : Gsym → ℕ → ℕ → Function → List Span
function_spans gsym low high f =
    if nat_lt low high && not (f.name == 0) then table_spans (high - low) (tells gsym) low high f.tables else []

-- the spans of functions, from `covered` on
abbrev pub spans_from : Gsym → ℕ → List Function → List Span
spans_from gsym covered [] = []
spans_from gsym covered (f ∷ later) = function_spans gsym (more covered f.start) (high_of f later) f
    ++ spans_from gsym (covered_after covered (more covered f.start) (high_of f later)) later
