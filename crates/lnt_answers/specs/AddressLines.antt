-- What is printed for a text whose lines contain positions.
use Rattle.std.specs.Prelude.{◌≡◌, ℕ, List, [], ◌∷◌, ◌++◌, Option, Some, None, IfSome, codes, map}
use Rattle.std.specs.List.{AllByRecursion, flat_map}
use Rattle.std.specs.Io.KnownBytes.{Appends}
use Rattle.std.specs.Str.Lines.{lines}
use Rattle.lnt_io.specs.Prefixes.{AppendsPrefix}
use Rattle.lnt_io.specs.declared.status.Status.{Status}
use Rattle.lnt_io.specs.declared.status.Status.TheVariants.{Done, No}
use Rattle.lnt_spans.specs.declared.position.Position.{Position}
use Rattle.lnt_sequences.specs.Sequences.{Selection}
use Rattle.lnt_lines.specs.Indexed.{Indexed, OfUnits}
use Rattle.lnt_text.specs.Texts.{quoted_text}
use Rattle.lnt_answers.specs.Lines.{NamesPosition, lookup_line}

-- The line contains this position; or it contains none.
abbrev pub NamesPositionIfAny : ℕ → List ℕ × Option Position → Type 0
NamesPositionIfAny op (line, Some position) = NamesPosition op line position
NamesPositionIfAny op (line, None) = (position : Position) → NamesPosition op line position → ⊥

-- what is printed for a line: the answer at its position; or that it is bad
abbrev pub printed_line : Indexed → Selection → List ℕ × Option Position → List ℕ
printed_line index selection (line, Some position) = lookup_line index selection position
printed_line index selection (line, None) = codes "bad " ++ (quoted_text line ++ codes "\n")

-- the status after a line
abbrev pub line_status : Status → Option Position → Status
line_status status (Some position) = status
line_status status None = No

-- and after several
abbrev pub lines_status : Status → List (List ℕ × Option Position) → Status
lines_status status [] = status
lines_status status (named ∷ more) = lines_status (line_status status named.1) more

-- What was appended to a writer that held these bytes (old) is what is printed for each of these lines in their order, and
-- nothing else. The operation index is op for a line without one.
pub record AreLinesPrinted (index : Indexed) (op : ℕ) (texts : List (List ℕ)) (old new : Option (List ℕ)) (before after : Status) : Type
    0 where
  pub named : List (List ℕ × Option Position)
  pub lines_are : map (λ line. line.0) named ≡ texts
  pub so : AllByRecursion (NamesPositionIfAny op) named
  pub printed : OfUnits index (λ selection. Appends old new (flat_map (printed_line index selection) named))
  pub status_is : after ≡ lines_status before named

-- If the source's bytes are known (text), this holds for the text's lines. A line ends with a line feed, which includes one
-- carriage return before it, or with the text.
abbrev pub AreAddressesPrinted : Indexed → ℕ → Option (List ℕ) → Option (List ℕ) → Option (List ℕ) → Status → Type 0
AreAddressesPrinted index op text old new status = IfSome text (λ bytes. AreLinesPrinted index op (lines bytes) old new Done status)

-- ---- where the writer stopped

-- What was appended to a writer that held these bytes (old) is a prefix of what is printed for each of these lines in their order,
-- and nothing else.
pub record AreLinesBegun (index : Indexed) (op : ℕ) (texts : List (List ℕ)) (old new : Option (List ℕ)) : Type 0 where
  pub named : List (List ℕ × Option Position)
  pub lines_are : map (λ line. line.0) named ≡ texts
  pub so : AllByRecursion (NamesPositionIfAny op) named
  pub prefix : OfUnits index (λ selection. AppendsPrefix old new (flat_map (printed_line index selection) named))

-- If the source's bytes are known (text), this holds for all the text's lines, including those that weren't read yet. Their
-- positions are a function of the lines (`laws::one_answer`): so a text has one whole answer, of which this is a prefix.
abbrev pub AreAddressesBegun : Indexed → ℕ → Option (List ℕ) → Option (List ℕ) → Option (List ℕ) → Type 0
AreAddressesBegun index op text old new = IfSome text (λ bytes. AreLinesBegun index op (lines bytes) old new)
