-- The lines that are printed for a check of a section and a table, and the statuses with which a run ends after them.
use Rattle.std.specs.Prelude.{ℕ, ◌*◌, Bool, nat_lt, if◌then◌else◌, List, ◌++◌, codes, decimal}
use Rattle.lnt_io.specs.declared.status.Status.{Status}
use Rattle.lnt_io.specs.declared.status.Status.TheVariants as status
use Rattle.lnt_compare.specs.declared.outcome.Compared.TheVariants.{Same, Fault, Differs}
use Rattle.lnt_table.specs.declared.kinds.OfKind.TheVariants.{Numbered, ByPath}
use Rattle.lnt_table.specs.declared.verdict.Verdict.TheVariants.{Yes, No}
use Rattle.lnt_table.specs.declared.within.CheckedWithin.{CheckedWithin}
use Rattle.lnt_table.specs.declared.within.CheckedWithin.TheVariants.{Checked as Printed, Covered}
use Rattle.lnt_spans.specs.declared.scope.Coverage.{Coverage}
use Rattle.lnt_table.specs.FaultTexts.{within_text}

-- ---- how much a table answers

-- whether the addresses at which both answer are fewer than so many of a hundred of the section's
abbrev pub is_few : ℕ → Coverage → Bool
is_few at_least coverage = nat_lt (coverage.answered * 100) (at_least * coverage.all)

-- the line with number 46: a table is right wherever it answers, and answers too few of the section's addresses
abbrev pub few_text : Coverage → List ℕ
few_text coverage = codes "no 46 answers " ++ (decimal coverage.answered ++ (codes " of " ++ decimal coverage.all))

-- ---- a check's answer, if a table that is right wherever it answers has to answer so many of a hundred of the section's addresses
--     at_least    how many

-- its line; where it says how much the table answers, its two lines
abbrev pub check_text : ℕ → CheckedWithin → List ℕ
check_text at_least (Printed checked) = within_text (Printed checked)
check_text at_least (Covered coverage) = if is_few at_least coverage then few_text coverage else within_text (Covered coverage)

abbrev pub checked_line : ℕ → CheckedWithin → List ℕ
checked_line at_least checked = check_text at_least checked ++ codes "\n"

-- how a run ends after it, for a table of any version, in any scope
abbrev pub checked_status : ℕ → CheckedWithin → Status
checked_status at_least (Printed (Numbered Yes)) = status.Done
checked_status at_least (Printed (Numbered (No reason))) = status.No
checked_status at_least (Printed (ByPath Same)) = status.Done
checked_status at_least (Printed (ByPath (Fault found))) = status.No
checked_status at_least (Printed (ByPath (Differs difference))) = status.No
checked_status at_least (Covered coverage) = if is_few at_least coverage then status.No else status.Done
