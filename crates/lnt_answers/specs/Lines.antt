-- The lines that are printed about a section: why it isn't good, and its answers at positions.
use Rattle.std.specs.Prelude.{◌≡◌, ◌==◌, ◌+◌, ℕ, List, ◌++◌, drop, take, if◌then◌else◌, None, Option, Some, codes, decimal, position, []}
use Rattle.std.specs.Prelude.{◌∷◌, Bool, false, suc, true, zero, flat_map}
use Rattle.std.specs.Io.KnownBytes.{Appends, Keeps}
use Rattle.lnt_spans.specs.declared.answer.Answer.{Answer}
use Rattle.lnt_spans.specs.declared.position.Position.{Position}
use Rattle.lnt_lines.specs.declared.no.No.{No}
use Rattle.lnt_lines.specs.declared.section.JudgedIndex.{JudgedIndex}
use Rattle.lnt_lines.specs.declared.section.JudgedIndex.TheVariants.{Good, Bad}
use Rattle.lnt_lines.specs.declared.options.Options.{Options}
use Rattle.lnt_lines.specs.Judging.{IsJudgedIndex, IsJudgedWithCopies}
use Rattle.lnt_io.specs.Prefixes.{AppendsPrefix}
use Rattle.lnt_sequences.specs.Sequences.{line_answer, Selection}
use Rattle.lnt_lines.specs.Indexed.{file_path_in, Indexed, file_count_in, file_sum_in}
use Rattle.lnt_text.specs.Digits.{IsAddress, IsDecimal}
use Rattle.lnt_text.specs.Texts.{quoted_text, position_text}
use Rattle.lnt_lines.specs.FaultTexts.{no_text}
use Rattle.csv.specs.Writing.{default_writer, row_text}
use Rattle.hex.specs.Hex.{encode_lower}
use Rattle.lnt_files.specs.Paths.{path_or_empty}

-- The judgement is true of the section; and if copies are asked for (with_copies), the index has the extents of all live sequences.
abbrev pub IsJudgedBy : Bool → List ℕ → List ℕ → Options → List ℕ → JudgedIndex → Type 0
IsJudgedBy false = IsJudgedIndex
IsJudgedBy true = IsJudgedWithCopies

-- The section is good, so its index was given.
abbrev pub IsIndexGiven : JudgedIndex → Type 0
IsIndexGiven (Good index) = Unit {0}
IsIndexGiven (Bad reason) = ⊥

-- What was appended to a writer that held these bytes is the line of the reason why the section isn't good, or nothing for
-- a good one.
abbrev pub IsReasonPrinted : JudgedIndex → Option (List ℕ) → Option (List ℕ) → Type 0
IsReasonPrinted (Good index) old new = Keeps old new
IsReasonPrinted (Bad reason) old new = Appends old new (no_text reason ++ codes "\n")

-- What was appended to a writer that held these bytes is a prefix of the line of a true reason why the section isn't good, and
-- nothing else.
--     IsSo    which judgements are true of the section
pub record HasBegunLine (IsSo : JudgedIndex → Type 0) (old new : Option (List ℕ)) : Type 0 where
  pub reason : No
  pub is_so : IsSo (Bad reason)
  pub prefix : AppendsPrefix old new (no_text reason ++ codes "\n")

-- the line of a position without an answer
abbrev pub none_text : Position → List ℕ
none_text position = position_text position ++ codes " none\n"

-- the numbers of an answer, each with a word before it
abbrev pub numbers_text : Answer → List ℕ
numbers_text answer =
    codes " unit " ++ (decimal answer.unit ++ (codes " file " ++ (decimal answer.file ++ (codes " line "
    ++ (decimal answer.line ++ (codes " column "
    ++ (decimal answer.column ++ (codes " stmt " ++ decimal (if answer.is_stmt then 1 else 0)))))))))

-- the end of the line: the path of the file, if it has one
abbrev pub path_end : Option (List ℕ) → List ℕ
path_end (Some path) = codes " path " ++ (quoted_text path ++ codes "\n")
path_end None = codes "\n"

-- the line of the answer at a position
abbrev pub answer_line : Indexed → Position → Option Answer → List ℕ
answer_line index position None = none_text position
answer_line index position (Some answer) =
    (position_text position ++ numbers_text answer) ++ path_end (file_path_in index answer.unit answer.file)

-- the line of the answer that the kept sequences of these units give at a position
abbrev pub lookup_line : Indexed → Selection → Position → List ℕ
lookup_line index selection position = answer_line index position (line_answer selection position)

-- The position in a line whose first comma is at this index: an address before the comma, and an operation index after it.
-- A line without a comma is an address, with the operation index `op`.
abbrev pub NamesPositionAt : ℕ → List ℕ → Option ℕ → Position → Type 0
NamesPositionAt op line None place = IsAddress line place.address × (place.op ≡ op)
NamesPositionAt op line (Some comma) place = IsAddress (take comma line) place.address × IsDecimal (drop (comma + 1) line) place.op

abbrev pub NamesPosition : ℕ → List ℕ → Position → Type 0
NamesPosition op line place = NamesPositionAt op line (position (λ byte. byte == 44) line) place

-- ---- the files of a good section, as comma-separated values

-- the hexadecimal digits of a sum; empty if none is listed
abbrev pub sum_field : Option (List ℕ) → List ℕ
sum_field (Some sum) = encode_lower sum
sum_field None = []

-- the record of a file: its unit's offset, its index, its full path and its listed sum
abbrev pub file_record : Indexed → ℕ → ℕ → List ℕ
file_record index unit file =
    row_text default_writer (decimal unit ∷ decimal file ∷ path_or_empty (file_path_in index unit file)
    ∷ sum_field (file_sum_in index unit file) ∷ [])

-- the lists of the numbers below `count`, one after another
abbrev pub lists_below : {X : Type 0} → (ℕ → List X) → ℕ → List X
lists_below list zero = []
lists_below list (suc count) = lists_below list count ++ list count

-- the records of all files of a unit
abbrev pub unit_records : Indexed → ℕ → List ℕ
unit_records index unit = lists_below (file_record index unit) (file_count_in index unit)

-- the header, and the records of all files of all units
abbrev pub files_text : Indexed → List ℕ
files_text index = codes "unit,file,path,md5\n" ++ flat_map (unit_records index) index.units
