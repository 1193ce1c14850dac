-- What the laws of judged sections say.
--     line, general   the bytes of .debug_line_str and of .debug_str
--     dead            the address at which sequences of dead code begin, if one is given
use Rattle.std.specs.Prelude.{◌≡◌, ◌≢◌, ℕ, List, length, None, Some, All, Contains}
use Rattle.lnt_wire.specs.declared.format.Order.{Order}
use Rattle.lnt_header.specs.declared.unit_parts.UnitParts.{UnitParts}
use Rattle.lnt_unit.specs.UnitBytes.{SectionBytes}
use Rattle.lnt_machine.specs.declared.row.Row.{Row}
use Rattle.lnt_spans.specs.declared.position.Position.{Position}
use Rattle.lnt_sequences.specs.Laws.{IsLastAt}
use Rattle.lnt_sequences.specs.Sequences.{answer_of, Holds, kept_sequences, line_answer, Placed, Selection}
use Rattle.lnt_files.specs.Paths.{listed_sum, path_bytes}
use Rattle.lnt_lines.specs.Contents.{Contents, count_in, files_of, path_in, sum_in, AreContentsOf}
use Rattle.lnt_lines.specs.Good.{IsGood, selected, Options}
use Rattle.lnt_lines.specs.Indexed.{header_in, Indexed, IsIndexOf}
use Rattle.lnt_lines.specs.Nos.{IsTrueNo, No}

-- No reason is true of a good section.
abbrev pub GoodHasNoFlaw : Type 0
GoodHasNoFlaw = (line general : List ℕ) (options : Options) (section : List ℕ) (units : List (ℕ × UnitParts)) (reason : No)
    → IsGood line general options section units → IsTrueNo line general options section reason → ⊥

-- The files that are held of a unit are those that its header lists.
pub record ListsFilesOf (line general : List ℕ) (unit : ℕ × UnitParts) (contents : Contents) : Type 0 where
  pub count : count_in contents unit.0 ≡ length unit.1.header.files
  pub paths : (file : ℕ) → path_in contents unit.0 file ≡ path_bytes line general unit.1.header file
  pub sums : (file : ℕ) → sum_in contents unit.0 file ≡ listed_sum unit.1.header file

-- The same for each unit of the section, and no files are held for an offset without a unit.
pub record FilesOfUnits : Type 0 where
  pub listed : (line general : List ℕ) (selection : Selection) (order : Order) (section : List ℕ) (contents : Contents)
      (unit : ℕ × UnitParts) → SectionBytes order selection.units section → AreContentsOf line general selection contents
      → Contains selection.units unit → ListsFilesOf line general unit contents
  pub none : (line general : List ℕ) (selection : Selection) (contents : Contents) (offset : ℕ)
      → AreContentsOf line general selection contents → All (λ unit. unit.0 ≢ offset) selection.units → files_of contents offset ≡ None

-- The header that an index finds at the offset of a unit is that of the unit, and it finds none at an offset without a
-- unit.
pub record HeadersOfUnits : Type 0 where
  pub found : (selection : Selection) (index : Indexed) (unit : ℕ × UnitParts)
      → IsIndexOf selection index → Contains selection.units unit → header_in index unit.0 ≡ Some unit.1.header
  pub none : (selection : Selection) (index : Indexed) (offset : ℕ) → IsIndexOf selection index
      → All (λ unit. unit.0 ≢ offset) selection.units → header_in index offset ≡ None

-- At most one kept sequence of a good section holds p, and the section answers at p what its last row at or before p says. If none
-- holds p, there is no answer.
pub record AnswersAsHolder : Type 0 where
  pub one_alone : (line general : List ℕ) (options : Options) (section : List ℕ) (units : List (ℕ × UnitParts)) (one other : Placed)
      (p : Position) → IsGood line general options section units → Contains (kept_sequences (selected options units)) one
      → Contains (kept_sequences (selected options units)) other → Holds one.rows p → Holds other.rows p → one ≡ other
  pub held : (line general : List ℕ) (options : Options) (section : List ℕ) (units : List (ℕ × UnitParts)) (placed : Placed) (p : Position)
      → IsGood line general options section units → Contains (kept_sequences (selected options units)) placed → Holds placed.rows p
      → (row : Row) × IsLastAt p placed.rows row × (line_answer (selected options units) p ≡ Some (answer_of placed.id.unit row))
  pub none : (selection : Selection) (p : Position)
      → ((placed : Placed) → Contains (kept_sequences selection) placed → Holds placed.rows p → ⊥) → line_answer selection p ≡ None

-- At most one reason is true of a section, under one choice of options. If the bytes are malformed, that is one fault, at one
-- place.
pub record OneNo : Type 0 where
  pub one : (line general : List ℕ) (options : Options) (section : List ℕ) (one other : No) → IsTrueNo line general options section one
      → IsTrueNo line general options section other → one ≡ other
