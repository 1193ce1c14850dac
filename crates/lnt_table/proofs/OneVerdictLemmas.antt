-- At most one verdict is true of a section and a table.
use Rattle.std.proofs.Common.{◌≡◌, ◌∙◌, ℕ, List, Option, refl, sym, ap, subst}
use Rattle.lnt_header.specs.declared.unit_parts.UnitParts.{UnitParts}
use Rattle.lnt_unit.proofs.UnitLaws.{same_units}
use Rattle.lnt_spans.specs.declared.answer.Answer.{Answer}
use Rattle.lnt_spans.specs.declared.difference.Difference.{Difference}
use Rattle.lnt_spans.specs.declared.position.Position.{Position}
use Rattle.lnt_spans.specs.AnyStretches.{Stretch}
use Rattle.lnt_spans.specs.Differences.{stretch_of}
use Rattle.lnt_records.specs.declared.fault.TableFault.TheVariants as fault
use Rattle.lnt_compare.specs.declared.outcome.Compared.{Compared}
use Rattle.lnt_compare.specs.declared.outcome.Compared.TheVariants.{Same, Fault, Differs}
use Rattle.lnt_compare.specs.Comparisons.{IsComparisonOf, TableKind, stretch_told, tables_by_number}
use Rattle.lnt_compare.specs.Laws.{OneComparison}
use Rattle.lnt_lines.specs.declared.no.No as section
use Rattle.lnt_lines.specs.declared.options.Options.{Options}
use Rattle.lnt_lines.specs.Laws.{GoodHasNoFlaw, OneNo}
use Rattle.lnt_lines.specs.Nos.{IsTrueNo}
use Rattle.lnt_table.specs.declared.verdict.TableNo.TheVariants as no
use Rattle.lnt_table.specs.declared.verdict.Verdict.TheVariants.{Yes, No}
use Rattle.lnt_table.specs.Headline.{IsGoodWith, IsTrueByNumber, IsTrueVerdict, told_rows}
use Rattle.lnt_table.specs.Laws.{OneVerdict}
use Rattle.lnt_table.specs.Verdicts.{no_of_fault, verdict_of, Verdict}

-- ---- comparisons of tables of any kind with a section

pub one_told : {V X Y D : Type 0} (kind : TableKind V X Y D) → OneComparison kind → (line general : List ℕ) (options : Options)
    (section table : List ℕ) (answers : List (ℕ × UnitParts) → V → Position → Option Y) (one other : Compared D)
    → IsGoodWith line general options section (λ units. IsComparisonOf kind (answers units) table one)
    → IsGoodWith line general options section (λ units. IsComparisonOf kind (answers units) table other)
    → stretch_told kind.stretch one ≡ stretch_told kind.stretch other
one_told kind comparisons line general options section table answers one other h k =
    let same : h.units ≡ k.units = same_units options.order 0 h.units k.units section h.good.spelled k.good.spelled in
    comparisons table (answers k.units) one other
    (subst (λ (us : List (ℕ × UnitParts)). IsComparisonOf kind (answers us) table one) same h.so) k.so

-- ---- verdicts, by their kinds

pub data Kind (line general : List ℕ) (options : Options) (bytes table : List ℕ) (verdict : Verdict) : Type 0 where
  bad : (reason : section.No) → verdict ≡ No (no.Section reason) → IsTrueNo line general options bytes reason
      → Kind line general options bytes table verdict
  compared : (told : Compared Difference) → verdict ≡ verdict_of told → IsTrueByNumber line general options bytes table told
      → Kind line general options bytes table verdict

pub kind_of : (line general : List ℕ) (options : Options) (bytes table : List ℕ) (verdict : Verdict)
    → IsTrueVerdict line general options bytes table verdict → Kind line general options bytes table verdict
kind_of line general options bytes table Yes v = compared Same refl v
kind_of line general options bytes table (No (no.Section reason)) v = bad reason refl v
kind_of line general options bytes table (No no.TableHeader) v = compared (Fault fault.Header) refl v
kind_of line general options bytes table (No (no.TableFields k)) v = compared (Fault (fault.Fields k)) refl v
kind_of line general options bytes table (No (no.TableNumber k i)) v = compared (Fault (fault.Number k i)) refl v
kind_of line general options bytes table (No (no.TableOrder k)) v = compared (Fault (fault.Order k)) refl v
kind_of line general options bytes table (No (no.Differs position by_table by_section)) v =
    compared (Differs (record { position = position; by_table = by_table; by_section = by_section })) refl v

verdict_told : Compared (Stretch Answer) → Verdict
verdict_told Same = Yes
verdict_told (Fault told) = No (no_of_fault told)
verdict_told (Differs stretch) = No (no.Differs stretch.position stretch.by_table stretch.by_section)

of_stretch : (told : Compared Difference) → verdict_of told ≡ verdict_told (stretch_told stretch_of told)
unfolding verdict_told
of_stretch Same = refl
of_stretch (Fault told) = refl
of_stretch (Differs difference) = refl

by_kinds : GoodHasNoFlaw → OneNo → OneComparison tables_by_number → (line general : List ℕ) (options : Options) (bytes table : List ℕ)
    (v w : Verdict) → Kind line general options bytes table v → Kind line general options bytes table w → v ≡ w
by_kinds flawless reasons one line general options bytes table v w (bad r e is) (bad s e' is') =
    e ∙ ap (λ (reason : section.No). No (no.Section reason)) (reasons.one line general options bytes r s is is') ∙ sym e'
by_kinds flawless reasons one line general options bytes table v w (bad r e is) (compared t e' is') =
    absurd (flawless line general options bytes is'.units r is'.good is)
by_kinds flawless reasons one line general options bytes table v w (compared t e is) (bad r e' is') =
    absurd (flawless line general options bytes is.units r is.good is')
by_kinds flawless reasons one line general options bytes table v w (compared t e is) (compared u e' is') =
    e ∙ of_stretch t
    ∙ ap verdict_told (one_told tables_by_number one line general options bytes table (told_rows options) t u is is')
    ∙ sym (of_stretch u) ∙ sym e'

pub one_verdict : GoodHasNoFlaw → OneNo → OneComparison tables_by_number → OneVerdict
one_verdict flawless reasons one = record {
  one = λ line general options bytes table v w h k.
      by_kinds flawless reasons one line general options bytes table v w (kind_of line general options bytes table v h)
      (kind_of line general options bytes table w k);
}
