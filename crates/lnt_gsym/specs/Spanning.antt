-- What is left of a source of spans. No public contract speaks of it but by the spans that are to come.
use Rattle.std.specs.Prelude.{◌≡◌, ℕ, ◌+◌, ◌-◌, ◌*◌, ◌^◌, ◌<◌, ◌≤◌, Bool, true, false, nat_lt, List, [], ◌∷◌, ◌++◌, length, take, drop}
use Rattle.std.specs.Prelude.{Option, None, Some, Ok, if◌then◌else◌}
use Rattle.std.specs.List.{AllByRecursion}
use Rattle.lnt_records.specs.declared.path_records.version.PathVersion.TheVariants.{Four}
use Rattle.lnt_records.specs.PathSpans.{spans_by_path}
use Rattle.lnt_spans.specs.declared.position.Position.{Position}
use Rattle.lnt_spans.specs.declared.span.Span.{Span}
use Rattle.lnt_spans.specs.Spans.{AreInOrder, IsOfInstructions}
use Rattle.lnt_gsym.specs.GsymAnswers.{gsym_answer, path_in}
use Rattle.lnt_gsym.specs.GsymFiles.{files_of, functions_of, Gsym, gsym_of, numbers_of}
use Rattle.lnt_gsym.specs.GsymInfos.{Function, Row}
use Rattle.lnt_gsym.specs.GsymSpans.{covered_after, end_of, function_spans, less, more, row_spans, spans_from, tells}
use Rattle.lnt_gsym.specs.Walking.{AreLeft, count_left, EntriesSaid, named, NamesSaid, next_start}
use Rattle.lnt_wire.specs.declared.format.Order.{Order}
use Rattle.lnt_gsym.specs.declared.header.Header.{Header as HeaderRead}
use Rattle.lnt_gsym.specs.declared.tables.Tables.{Tables as TablesRead}
use Rattle.lnt_gsym.specs.declared.spans.Above.{Above}
use Rattle.lnt_gsym.specs.declared.spans.Functions.{Functions}
use Rattle.lnt_gsym.specs.declared.spans.GsymSpans.{GsymSpans}
use Rattle.lnt_gsym.specs.declared.spans.Opened.{Opened}
use Rattle.lnt_gsym.specs.declared.spans.Part.{Part}

-- What is known of where the first entry begins that starts above another.
abbrev pub IsAbove : ℕ → List ℕ → Option Above → Type 0
IsAbove base starts None = Unit {0}
IsAbove base starts (Some above) = above.next ≡ next_start base above.start starts

-- These functions are left.
pub record FunctionsLeft (files : ℕ) (functions : Functions) (above : Option Above) (fs : List Function) : Type 0 where
  pub read : functions_of functions.order functions.bytes.now functions.entries.base files functions.entries.starts functions.entries.infos
      ≡ Ok fs
  pub lengths : length functions.entries.starts ≡ length functions.entries.infos
  pub above_is : IsAbove functions.entries.base functions.entries.starts above

-- The rows of a function were opened between two addresses, and with the functions that are left then they have the spans of all.
pub record IsOpenedPart (gsym : Gsym) (files : ℕ) (functions : Functions) (above : Option Above) (old covered : ℕ) (part : Part)
    (fs : List Function) : Type 0 where
  pub made : List Row
  pub later : List Function
  pub left : AreLeft files part.rows made
  pub functions_left : FunctionsLeft files functions above later
  pub spans : spans_from gsym old fs ≡ row_spans (tells gsym) part.low part.high made ++ spans_from gsym covered later

-- These spans are all of a function between two addresses; or those up to an address between, from which on it has others.
abbrev pub AreSpansOf : Gsym → ℕ → ℕ → ℕ → Bool → List Span → ℕ → Function → Type 0
AreSpansOf gsym old low high true spans covered f = (covered ≡ covered_after old low high) × (spans ≡ function_spans gsym low high f)
AreSpansOf gsym old low high false spans covered f = (low < covered) × (covered < high)
    × (spans ++ function_spans gsym covered high f ≡ function_spans gsym low high f)

-- The rows of a function between two addresses have its spans from `old` on, or the first of them, if the next one starts at `next`.
pub record IsPartOf (gsym : Gsym) (files old start next : ℕ) (opened : Opened) (f : Function) : Type 0 where
  pub made : List Row
  pub left : AreLeft files opened.part.rows made
  pub spans : AreSpansOf gsym old (more old start) (less (end_of start f.size) next) opened.is_over
      (row_spans (tells gsym) opened.part.low opened.part.high made) opened.covered f

-- These spans are to come: those of the rows that are left between two addresses, and those of the functions that are left.
pub record AreToCome (source : GsymSpans) (spans : List Span) : Type 0 where
  pub files : ℕ
  pub rows : List Row
  pub fs : List Function
  pub left : AreLeft files source.part.rows rows
  pub functions_left : FunctionsLeft files source.functions source.above fs
  pub are : spans ≡ row_spans (tells (named source.names.now)) source.part.low source.part.high rows
      ++ spans_from (named source.names.now) source.covered fs

-- how many times rows are opened at most
abbrev pub openings : ℕ → List ℕ → ℕ
openings covered starts = length starts * 2 ^ 65 + (2 ^ 64 - covered)

-- how many there are at most: no line table has more than 2^64 rows
abbrev pub count_to_come : GsymSpans → ℕ
count_to_come source = openings source.covered source.functions.entries.starts * 2 ^ 65 + count_left source.part.rows

-- ---- what the spans of a file are

-- No number is below the one before it.
abbrev pub NumbersRise : List ℕ → Type 0
NumbersRise [] = Unit {0}
NumbersRise (n ∷ []) = Unit {0}
NumbersRise (n ∷ m ∷ numbers) = (n ≤ m) × NumbersRise (m ∷ numbers)

-- These functions and names are those of a file.
pub record HasRead (functions : Functions) (names : NamesSaid) (gsym : Gsym) : Type 0 where
  pub files : ℕ
  pub read : functions_of functions.order functions.bytes.now functions.entries.base files functions.entries.starts functions.entries.infos
      ≡ Ok gsym.functions
  pub lengths : length functions.entries.starts ≡ length functions.entries.infos
  pub rise : NumbersRise functions.entries.starts
  pub strings_are : names.strings ≡ gsym.strings
  pub files_are : names.files ≡ gsym.files

-- Spans are to come that are in order, and answer at each address of a table as the file does.
pub record SpansSo (to_come : List Span → Type 0) (names : NamesSaid) (gsym : Gsym) : Type 0 where
  pub list : List Span
  pub coming : to_come list
  pub in_order : AreInOrder list
  pub instructions : AllByRecursion IsOfInstructions list
  pub answers : (p : Position) → spans_by_path Four (λ unit file. path_in names.strings names.files file) list p
      ≡ (if nat_lt p.address (2 ^ 64 - 1) then gsym_answer gsym p.address else None)

-- They are those of a file with these bytes, which has no fault.
abbrev pub IsReadOf : Order → List ℕ → Functions → NamesSaid → Type 0
IsReadOf order bytes functions names = (gsym : Gsym) × (gsym_of order bytes ≡ Ok gsym) × HasRead functions names gsym

-- the entries that a header and tables say
abbrev pub entries_said : Order → HeaderRead → TablesRead → EntriesSaid
entries_said order header tables = record {
  base = header.base;
  starts = numbers_of order header.address_size header.count tables.starts.now;
  infos = numbers_of order 4 header.count tables.infos.now;
}

-- the names that they say
abbrev pub names_said : Order → List ℕ → HeaderRead → TablesRead → NamesSaid
names_said order bytes header tables = record {
  strings = take header.strings_size (drop header.strings_place bytes);
  files = files_of order tables.count tables.files.now;
}
