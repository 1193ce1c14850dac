-- A text whose lines contain positions, as it is read block by block. No public contract speaks of this.
use Rattle.std.specs.Prelude.{◌≡◌, List, Option, IfSome, All, ◌==◌, false, ℕ, ◌∷◌, ◌++◌}
use Rattle.lnt_answers.specs.declared.line_ends.LineEnd.{LineEnd}
use Rattle.lnt_answers.specs.Lines.{path_end, NamesPosition}
use Rattle.lnt_lines.specs.Indexed.{file_path_in, Indexed}
use Rattle.std.specs.Str.Lines.{lines, strip_carriage_return}
use Rattle.lnt_io.specs.declared.status.Status.{Status}
use Rattle.lnt_spans.specs.declared.position.Position.{Position}
use Rattle.lnt_answers.specs.AddressLines.{AreLinesBegun, AreLinesPrinted}

-- ---- the ends of lines that are kept. No public contract speaks of this.

-- Every end that is kept has the path of its file.
abbrev pub AreEndsOf : Indexed → List (Option LineEnd) → Type 0
AreEndsOf index slots = All (λ slot. IfSome slot (λ end. end.text.items ≡ path_end (file_path_in index end.unit end.file))) slots

-- ---- blocks of lines

-- none of the bytes is this one
abbrev pub HasNo : ℕ → List ℕ → Type 0
HasNo byte text = All (λ other. (other == byte) ≡ false) text

-- The first such byte of the text is between these two parts of it.
abbrev pub IsCut : ℕ → List ℕ → List ℕ → List ℕ → Type 0
IsCut byte text prefix back = (text ≡ prefix ++ byte ∷ back) × HasNo byte prefix

-- The first line of the text contains this position, and ends with a line feed before the rest of the text.
pub record BeginsWithLine (op : ℕ) (text : List ℕ) (position : Position) (rest : List ℕ) : Type 0 where
  pub line : List ℕ
  pub cut : IsCut 10 text line rest
  pub tells : NamesPosition op (strip_carriage_return line) position

-- The first lines of the text were answered, up to the rest of it.
pub record AreFirstPrinted (index : Indexed) (op : ℕ) (text rest : List ℕ) (old new : Option (List ℕ))
    (before after : Status) : Type 0 where
  pub texts : List (List ℕ)
  pub printed : AreLinesPrinted index op texts old new before after
  pub cut : (more : List ℕ) → lines (text ++ more) ≡ texts ++ lines (rest ++ more)

-- The writer stopped: what was written is a prefix of what is printed for some of the first lines of the text, whatever follows it.
pub record AreFirstBegun (index : Indexed) (op : ℕ) (text : List ℕ) (old new : Option (List ℕ)) : Type 0 where
  pub texts : List (List ℕ)
  pub begun : AreLinesBegun index op texts old new
  pub cut : (more : List ℕ) → (rest : List (List ℕ)) × (texts ++ rest ≡ lines (text ++ more))
