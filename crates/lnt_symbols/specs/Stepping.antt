-- What the values of the code say.
use Rattle.std.specs.Prelude.{◌≡◌, ◌⊎◌, ◌+◌, ◌-◌, ◌*◌, ◌^◌, ◌<◌, ◌≤◌, ◌==◌, nat_lt, ℕ, Bool, true, if◌then◌else◌, List, [], ◌∷◌, ◌++◌, drop}
use Rattle.std.specs.Prelude.{length, take, Option, Some, None, Result, Ok, Err, IsSome, Contains}
use Rattle.std.specs.BTreeMap.{BTreeMap, get}
use Rattle.std.specs.List.{AllByRecursion, list_all}
use Rattle.std.specs.Ordering.{nat_cmp}
use Rattle.std.specs.Borrow.{Bor}
use Rattle.lnt_text.specs.Digits.{digit_value}
use Rattle.lnt_symbols.specs.BreakpadLines.{is_hexadecimal_digit, LineRecord, lines_of, Range, record_of, RecordSaid, Said}
use Rattle.lnt_symbols.specs.BreakpadLines.{file_said, function_said, line_said, public_said, nothing_said}
use Rattle.lnt_symbols.specs.BreakpadAnswers.{end_of, is_kept, kept, name_in, records_from, records_of, records_of_lines}
use Rattle.lnt_symbols.specs.declared.fault.SymbolFault.{SymbolFault}
use Rattle.lnt_io.specs.declared.stop.Stop.TheVariants.{Memory}
use Rattle.lnt_symbols.specs.declared.breakpad.file.Reader.{Reader}
use Rattle.lnt_symbols.specs.declared.breakpad.file.ReadingStop.{ReadingStop}
use Rattle.lnt_symbols.specs.declared.breakpad.file.ReadingStop.TheVariants.{Fault, Stop}
use Rattle.lnt_symbols.specs.declared.breakpad.kept.KeptRanges.{KeptRanges}
use Rattle.lnt_symbols.specs.declared.breakpad.names.Names.{Names}
use Rattle.lnt_symbols.specs.declared.breakpad.names.Place.{Place}
use Rattle.lnt_symbols.specs.declared.breakpad.reading.Reading.{Reading}
use Rattle.lnt_symbols.specs.declared.breakpad.record.Record.{Record}
use Rattle.lnt_symbols.specs.declared.breakpad.record.Record.TheVariants.{File, Function, Line, Public, Nothing}
use Rattle.lnt_symbols.specs.declared.piece.Piece.{Piece}
use Rattle.lnt_symbols.specs.Pieces.{all_pieces, cut_line, pieces_of}

abbrev pub said_of : Record → RecordSaid
said_of (File number name) = file_said number name.now
said_of (Function range) = function_said range
said_of (Line line) = line_said line
said_of Public = public_said
said_of Nothing = nothing_said

-- These bytes may follow those after a line whose end was found there: any, if one stands after the end; else none.
abbrev pub MayFollow : Option (Bor (List ℕ)) → List ℕ → Type 0
MayFollow None more = more ≡ []
MayFollow (Some rest) more = (0 < length rest.now) ⊎ (more ≡ [])

-- the lines after one that has an end, if these bytes follow; none after one that has none
abbrev pub lines_left : Option (Bor (List ℕ)) → List ℕ → List (List ℕ)
lines_left None more = []
lines_left (Some rest) more = lines_of (rest.now ++ more)

-- how much is left to read
abbrev pub left_length : Option (Bor (List ℕ)) → ℕ
left_length None = 0
left_length (Some rest) = length rest.now + 1

-- Why a file wasn't read. That it can't be, or want of memory, says nothing of the file.
abbrev pub IsStop : List ℕ → ReadingStop → Type 0
IsStop bytes (Fault fault) = records_of bytes ≡ Err fault
IsStop bytes (Stop stop) = Unit {0}

-- ---- kept ranges, as far as they are known

-- This is the last address of the ranges, or there are none.
abbrev pub IsTheLast : {X : Type 0} → (X → Range) → Option ℕ → List X → Type 0
IsTheLast range None those = those ≡ []
IsTheLast range (Some last) those = AllByRecursion (λ y. end_of (range y) ≤ last + 1) those

-- The range begins above the address, if there is one.
abbrev pub IsAbove : Option ℕ → Range → Type 0
IsAbove None range = Unit {0}
IsAbove (Some last) range = last < range.address

-- the last address at a first one
abbrev pub last_at : BTreeMap ℕ ℕ → ℕ → Option ℕ
last_at tree first = get nat_cmp tree first

-- The tree has the last address of each of these ranges at its first address, and nothing else. None is empty, and no two have an address
-- in common.
pub record AreInTree (tree : BTreeMap ℕ ℕ) (those : List Range) : Type 0 where
  pub each : (y : Range) → Contains those y → (last_at tree y.address ≡ Some (end_of y - 1)) × (0 < y.size)
  pub only : (first last : ℕ) → last_at tree first ≡ Some last → (y : Range) × Contains those y × (y.address ≡ first) × (end_of y
      ≡ last + 1)
  pub filled : (first last : ℕ) → last_at tree first ≡ Some last → first ≤ last
  pub apart : (first last other : ℕ) → last_at tree first ≡ Some last → IsSome (last_at tree other) → first < other → last < other

-- the kept ranges, after one more
abbrev pub more_kept : List Range → Range → List Range
more_kept those range = if is_kept (λ y. y) those range then those ++ range ∷ [] else those

-- Without a tree these are the ranges, all of which are kept, and this is their last address; a tree has those ranges.
abbrev pub AreThose : List Range → Option ℕ → Option (BTreeMap ℕ ℕ) → List Range → Type 0
AreThose rising last None those = (rising ≡ those) × IsTheLast (λ y. y) last those × (kept (λ y. y) those ≡ those)
AreThose rising last (Some tree) those = AreInTree tree those

-- Those are the kept ranges.
abbrev pub HasKept : KeptRanges → List Range → Type 0
HasKept ranges those = AreThose ranges.rising.items ranges.last ranges.tree those

-- ---- names

-- the text at a place
abbrev pub text_at : List ℕ → Place → List ℕ
text_at texts place = take place.length (drop place.start texts)

-- the text at a place, if there is one, else another
abbrev pub known_or : List ℕ → Option Place → List ℕ → List ℕ
known_or texts None rest = rest
known_or texts (Some place) rest = text_at texts place

-- the name with a number, which has 32 bits, else another
abbrev pub name_or : Names → ℕ → List ℕ → List ℕ
name_or names number rest =
    if nat_lt number (2 ^ 32) then known_or names.texts.items (get nat_cmp names.places number) rest else rest

-- the name with a number, or nothing
abbrev pub name_at : Names → ℕ → List ℕ
name_at names number = name_or names number []

-- Each place lies in the texts.
abbrev pub AreInside : Names → Type 0
AreInside names = (number : ℕ) (place : Place) → get nat_cmp names.places number ≡ Some place
    → place.start + place.length ≤ length names.texts.items

-- ---- records, taken one by one

-- The pieces of records that are left.
--     functions   the ranges of the kept functions before them
--     open_one    the range of the function that goes on, if it's kept, and those of its kept line records
abbrev pub pieces_after : ℕ → List Range → Option (Range × List Range) → List RecordSaid → List Piece
pieces_after base functions open_one [] = []
pieces_after base functions open_one (function_said range ∷ records) =
    if is_kept (λ y. y) functions range then pieces_after base (functions ++ range ∷ []) (Some (range, [])) records
    else pieces_after base functions None records
pieces_after base functions open_one (line_said line ∷ records) = elim open_one [
  | None ↦ pieces_after base functions None records
  | Some parts ↦ if is_kept (λ y. y) parts.1 line.range
      then cut_line base parts.0 line ++ pieces_after base functions (Some (parts.0, parts.1 ++ line.range ∷ [])) records
      else pieces_after base functions (Some parts) records
]
pieces_after base functions open_one (public_said ∷ records) = pieces_after base functions None records
pieces_after base functions open_one (file_said n name ∷ records) = pieces_after base functions open_one records
pieces_after base functions open_one (nothing_said ∷ records) = pieces_after base functions open_one records

abbrev pub with_lines : Option Range → List Range → Option (Range × List Range)
with_lines None lines = None
with_lines (Some function) lines = Some (function, lines)

-- This is what the records come to.
pub record HasTaken (base : ℕ) (done : List RecordSaid) (reading : Reading) : Type 0 where
  pub functions : List Range
  pub lines : List Range
  pub kept_functions : HasKept reading.functions functions
  pub kept_lines : HasKept reading.lines lines
  pub pieces : (later : List RecordSaid) → pieces_of base (done ++ later)
      ≡ all_pieces reading.pieces ++ pieces_after base functions (with_lines reading.function lines) later
  pub names : (later : List RecordSaid) (number : ℕ) → name_or reading.names number (name_in later number)
      ≡ name_in (done ++ later) number
  pub inside : AreInside reading.names

-- ---- lines, taken one by one

-- records before those that are left, or what is wrong with these
abbrev pub joined : List RecordSaid → Result (List RecordSaid) SymbolFault → Result (List RecordSaid) SymbolFault
joined done (Err fault) = Err fault
joined done (Ok records) = Ok (done ++ records)

-- the records of lines after so many
abbrev pub records_after : ℕ → Bool → List (List ℕ) → Result (List RecordSaid) SymbolFault
records_after number inside lines = if number == 0 then records_of_lines lines else records_from (number + 1) inside lines

-- The lines of a file were read up to these.
pub record HasRead (whole : List ℕ) (reader : Reader) (lines : List (List ℕ)) : Type 0 where
  pub done : List RecordSaid
  pub read : records_of whole ≡ joined done (records_after reader.number reader.inside lines)
  pub taken : HasTaken reader.base done reader.reading

-- The file has records, and this is what they come to.
abbrev pub AreTaken : ℕ → List ℕ → Reading → Type 0
AreTaken base bytes reading = (records : List RecordSaid) × (records_of bytes ≡ Ok records) × HasTaken base records reading

-- The stop isn't that of a source.
abbrev pub IsHeldStop : ReadingStop → Type 0
IsHeldStop (Fault fault) = Unit {0}
IsHeldStop (Stop source) = source ≡ Memory

-- ---- the first line of a text

-- The rest stands at the end of the text.
abbrev pub IsEnd : List ℕ → List ℕ → Type 0
IsEnd text rest = rest ≡ drop (length text - length rest) text

-- The first line says this, and these lines follow.
pub record SaysFirst (text : List ℕ) (said : Said RecordSaid) (lines : List (List ℕ)) : Type 0 where
  pub line : List ℕ
  pub joined : lines_of text ≡ line ∷ lines
  pub says : record_of line ≡ said

-- The first line is a line record that says this, with an end, and the rest follows, whatever comes after it.
pub record IsFirstLine (text : List ℕ) (said : LineRecord) (rest : List ℕ) : Type 0 where
  pub says : (more : List ℕ) → SaysFirst (text ++ more) (Ok (line_said said)) (lines_of (rest ++ more))
  pub at_end : IsEnd text rest
  pub shorter : length rest < length text

-- The text begins with digits of a number, and then come a byte and the rest.
pub record HasNumber (number : List ℕ → Said ℕ) (stop : ℕ) (text : List ℕ) (n : ℕ) (rest : List ℕ) : Type 0 where
  pub digits : List ℕ
  pub joined : text ≡ digits ++ stop ∷ rest
  pub all : list_all is_hexadecimal_digit digits ≡ true
  pub value : number digits ≡ Ok n

-- The number with up to `left` digits, which stand before a byte, after those of `value`; and what stands after that byte.
abbrev pub number_up_to : ℕ → (ℕ → Bool) → ℕ → ℕ → ℕ → List ℕ → Option (ℕ × List ℕ)
number_up_to radix is_digit stop left value [] = None
number_up_to radix is_digit stop left value (c ∷ text) =
    if is_digit c then (if nat_lt 0 left then number_up_to radix is_digit stop (left - 1) (value * radix + digit_value c) text else None)
    else if c == stop then Some (value, text) else None
