-- The lines that say whether a table answers as a section does, as their types print them.
use Rattle.std.specs.Prelude.{ℕ, List, [], ◌++◌, Option, None, Some, codes, decimal, if◌then◌else◌}
use Rattle.lnt_records.specs.PathSpans.{PathAnswer}
use Rattle.lnt_spans.specs.AnyStretches.{Stretch}
use Rattle.lnt_spans.specs.declared.position.Position.{Position}
use Rattle.lnt_spans.specs.declared.difference.Difference.{Difference}
use Rattle.lnt_spans.specs.declared.answer.Answer.{Answer}
use Rattle.lnt_spans.specs.declared.answer.More.{More}
use Rattle.lnt_text.specs.Texts.{quoted_text, position_text}
use Rattle.lnt_table.specs.declared.verdict.TableNo.{TableNo}
use Rattle.lnt_table.specs.declared.verdict.TableNo.TheVariants as no
use Rattle.lnt_table.specs.declared.verdict.Verdict.TheVariants.{Yes, No}
use Rattle.lnt_table.specs.Verdicts.{Checked, no_of_fault, Verdict}
use Rattle.lnt_table.specs.declared.kinds.OfKind.TheVariants.{Numbered, ByPath}
use Rattle.lnt_table.specs.declared.within.CheckedWithin.{CheckedWithin}
use Rattle.lnt_table.specs.declared.within.CheckedWithin.TheVariants.{Checked as Told, Covered}
use Rattle.lnt_lines.specs.FaultTexts.{no_text}
use Rattle.lnt_records.specs.FaultTexts.{table_fault_text}
use Rattle.lnt_records.specs.declared.fault.TableFault.TheVariants as fault
use Rattle.lnt_compare.specs.declared.outcome.Compared.{Compared}
use Rattle.lnt_compare.specs.declared.outcome.Compared.TheVariants.{Same, Fault, Differs}
use Rattle.lnt_compare.specs.declared.path_tables.answer.DifferenceByPath.{DifferenceByPath}
use Rattle.lnt_compare.specs.PathStretches.{stretch_of}

-- ---- the line of a difference, by number and by path

-- the end of a stretch, if it is told
abbrev pub end_text : Option Position → List ℕ
end_text None = []
end_text (Some end) = codes " up to " ++ position_text end

-- where a table and a section answer differently, the first position after the stretch, if it is told, and both answers
abbrev pub differs_text : Position → Option Position → List ℕ → List ℕ → List ℕ
differs_text position end by_table by_section =
    codes "no 40 differs at " ++ (position_text position ++ (end_text end
    ++ (codes " table " ++ (by_table ++ (codes " section " ++ by_section)))))

-- what version 2 of the address table has in addition to version 1, each after a comma
abbrev pub more_text : Option More → List ℕ
more_text None = []
more_text (Some more) = codes "," ++ (decimal more.isa ++ (codes "," ++ decimal more.discriminator))

-- an answer, as the fields of a table's record after its positions
abbrev pub answer_text : Option Answer → List ℕ
answer_text None = codes "none"
answer_text (Some answer) =
    decimal answer.unit ++ (codes "," ++
    (decimal answer.file ++ (codes "," ++
    (decimal answer.line ++ (codes "," ++
    (decimal answer.column ++ (codes "," ++ (decimal (if answer.is_stmt then 1 else 0) ++ more_text answer.more))))))))

abbrev pub stretch_text : Difference → Option Position → List ℕ
stretch_text difference end = differs_text difference.position end (answer_text difference.by_table) (answer_text difference.by_section)

-- a comma and the column of an answer, if the version has columns; otherwise nothing
abbrev pub column_text : Option ℕ → List ℕ
column_text None = []
column_text (Some column) = codes "," ++ decimal column

-- an answer by path, as the fields of a table's record after the positions, with the path always in quotes; or none
abbrev pub path_answer_text : Option PathAnswer → List ℕ
path_answer_text None = codes "none"
path_answer_text (Some answer) = quoted_text answer.path ++ (codes "," ++ (decimal answer.line ++ column_text answer.column))

abbrev pub path_stretch_text : Stretch PathAnswer → Option Position → List ℕ
path_stretch_text stretch end = differs_text stretch.position end (path_answer_text stretch.by_table) (path_answer_text stretch.by_section)

-- ---- tables by path that can't be written

-- the line with number 43: a span begins or ends at this position, whose operation index isn't 0
abbrev pub operation_text : Position → List ℕ
operation_text position = codes "no 43 operation index at " ++ position_text position

-- ---- the lines of answers

-- why a table doesn't answer as the section does
abbrev pub table_no_text : TableNo → List ℕ
table_no_text (no.Section reason) = no_text reason
table_no_text no.TableHeader = codes "no 36 " ++ table_fault_text fault.Header
table_no_text (no.TableFields record_number) = codes "no 37 " ++ table_fault_text (fault.Fields record_number)
table_no_text (no.TableNumber record_number column) = codes "no 38 " ++ table_fault_text (fault.Number record_number column)
table_no_text (no.TableOrder record_number) = codes "no 39 " ++ table_fault_text (fault.Order record_number)
table_no_text (no.Differs position by_table by_section) =
    stretch_text (record { position = position; by_table = by_table; by_section = by_section }) None

-- the verdict on a table of version 1 or 2
abbrev pub verdict_text : Verdict → List ℕ
verdict_text Yes = codes "yes"
verdict_text (No reason) = table_no_text reason

-- the outcome of a comparison by path
abbrev pub compared_text : Compared DifferenceByPath → List ℕ
compared_text Same = codes "yes"
compared_text (Fault told) = table_no_text (no_of_fault told)
compared_text (Differs difference) = path_stretch_text (stretch_of difference) None

-- a check's answer, of a table of any version
abbrev pub checked_text : Checked → List ℕ
checked_text (Numbered verdict) = verdict_text verdict
checked_text (ByPath compared) = compared_text compared

-- a check's answer in a scope: where the table is right wherever it answers, the second line says how much it answers
abbrev pub within_text : CheckedWithin → List ℕ
within_text (Told checked) = checked_text checked
within_text (Covered coverage) = codes "yes\nanswers " ++ (decimal coverage.answered ++ (codes " of " ++ decimal coverage.all))
