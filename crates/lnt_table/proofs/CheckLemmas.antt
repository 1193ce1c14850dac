-- What a comparison of a table with the lines of a good section says of the two.
use Rattle.std.proofs.Common.{◌≡◌, ℕ, List, ap, option_map}
use Rattle.lnt_spans.specs.declared.answer.Version.{Version}
use Rattle.lnt_spans.specs.declared.difference.Difference.{Difference}
use Rattle.lnt_spans.specs.declared.position.Position.{Position}
use Rattle.lnt_spans.specs.declared.span.Span.{Span}
use Rattle.lnt_spans.specs.Answers.{in_version}
use Rattle.lnt_spans.specs.Spans.{span_answer, version_answer}
use Rattle.lnt_sequences.specs.Sequences.{line_answer, Selection}
use Rattle.lnt_records.specs.declared.fault.TableFault.TheVariants as fault
use Rattle.lnt_compare.specs.declared.outcome.Compared.{Compared}
use Rattle.lnt_compare.specs.declared.outcome.Compared.TheVariants.{Same, Fault, Differs}
use Rattle.lnt_lines.specs.declared.no.No.{No as SectionNo}
use Rattle.lnt_lines.specs.declared.options.Options.{Options}
use Rattle.lnt_lines.specs.Judging.{IsIndexOfSection}
use Rattle.lnt_lines.specs.Indexed.{Indexed}
use Rattle.lnt_table.specs.declared.verdict.TableNo.TheVariants as no
use Rattle.lnt_table.specs.declared.verdict.Verdict.TheVariants.{No}
use Rattle.lnt_table.specs.Headline.{IsTrueOfSection, told_answer}
use Rattle.lnt_table.specs.Verdicts.{verdict_of}

-- Spans that answer as the rows do also answer so as each version tells answers.
pub same_in_version : (version : Version) (selection : Selection) (spans : List Span) → ((p : Position)
    → span_answer spans p ≡ line_answer selection p) → (p : Position) → version_answer version spans p ≡ told_answer version selection p
same_in_version version selection spans same p = ap (option_map (in_version version)) (same p)

-- ---- what a comparison says

-- of the section, whatever the table is
pub section_told : (line general : List ℕ) (options : Options) (section : List ℕ) (index : Indexed) (compared : Compared Difference)
    → IsIndexOfSection line general options section index → IsTrueOfSection line general options section (verdict_of compared)
section_told line general options section index Same i = (i.units, i.good)
section_told line general options section index (Fault fault.Header) i = (i.units, i.good)
section_told line general options section index (Fault (fault.Fields k)) i = (i.units, i.good)
section_told line general options section index (Fault (fault.Number k n)) i = (i.units, i.good)
section_told line general options section index (Fault (fault.Order k)) i = (i.units, i.good)
section_told line general options section index (Differs difference) i = (i.units, i.good)

-- the verdict of a comparison has no reason of the section
pub none_of_section : (compared : Compared Difference) (reason : SectionNo) → verdict_of compared ≡ No (no.Section reason) → ⊥
none_of_section Same reason e = cc
none_of_section (Fault fault.Header) reason e = cc
none_of_section (Fault (fault.Fields k)) reason e = cc
none_of_section (Fault (fault.Number k i)) reason e = cc
none_of_section (Fault (fault.Order k)) reason e = cc
none_of_section (Differs difference) reason e = cc
