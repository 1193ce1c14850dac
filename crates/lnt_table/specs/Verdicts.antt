-- The verdict that the comparison of a table with a good section stands for.
use Rattle.lnt_spans.specs.declared.difference.Difference.{Difference}
use Rattle.lnt_records.specs.declared.fault.TableFault.{TableFault}
use Rattle.lnt_records.specs.declared.fault.TableFault.TheVariants as fault
use Rattle.lnt_compare.specs.declared.outcome.Compared.{Compared}
use Rattle.lnt_compare.specs.declared.outcome.Compared.TheVariants.{Same, Fault, Differs}
use Rattle.lnt_compare.specs.declared.path_tables.answer.DifferenceByPath.{DifferenceByPath}
use Rattle.lnt_table.specs.declared.kinds.OfKind.{OfKind}
use Rattle.lnt_table.specs.declared.verdict.TableNo.{TableNo}
use Rattle.lnt_table.specs.declared.verdict.TableNo.TheVariants as no
pub use Rattle.lnt_table.specs.declared.verdict.Verdict.{Verdict}
use Rattle.lnt_table.specs.declared.verdict.Verdict.TheVariants.{Yes, No}

-- the reason against a table that its first fault stands for
abbrev pub no_of_fault : TableFault → TableNo
no_of_fault fault.Header = no.TableHeader
no_of_fault (fault.Fields k) = no.TableFields k
no_of_fault (fault.Number k i) = no.TableNumber k i
no_of_fault (fault.Order k) = no.TableOrder k

-- the verdict on a table of version 1 or 2
abbrev pub verdict_of : Compared Difference → Verdict
verdict_of Same = Yes
verdict_of (Fault told) = No (no_of_fault told)
verdict_of (Differs difference) = No (no.Differs difference.position difference.by_table difference.by_section)

-- the answer of a check: a verdict, or what the comparison with a table by path found
abbrev pub Checked : Type 0
Checked = OfKind Verdict (Compared DifferenceByPath)
