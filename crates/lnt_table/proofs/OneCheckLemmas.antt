-- All true answers of `check_any` for one section and one table say the same.
use Rattle.std.proofs.Common.{◌≡◌, ℕ, List}
use Rattle.lnt_compare.specs.declared.outcome.Compared.{Compared}
use Rattle.lnt_compare.specs.Laws.{OneComparison}
use Rattle.lnt_compare.specs.declared.path_tables.answer.DifferenceByPath.{DifferenceByPath}
use Rattle.lnt_compare.specs.Outcomes.{tables_by_path}
use Rattle.lnt_lines.specs.declared.options.Options.{Options}
use Rattle.lnt_table.specs.Verdicts.{Checked, Verdict}
use Rattle.lnt_table.specs.declared.kinds.OfKind.TheVariants.{Numbered, ByPath}
use Rattle.lnt_table.specs.AnyVersion.{IsTrueCheck, told_paths}
use Rattle.lnt_table.specs.Laws.{OneCheck, OneNumbered, OneVerdict, SayTheSame}
use Rattle.lnt_table.proofs.OneVerdictLemmas.{one_told}

not_numbered : (compared : Compared DifferenceByPath) (verdict : Verdict) → ByPath compared ≡ Numbered verdict → ⊥
not_numbered compared verdict e = cc

of_both : OneVerdict → OneNumbered → OneComparison tables_by_path
    → (line general : List ℕ) (options : Options) (section table : List ℕ) (one other : Checked)
    → IsTrueCheck line general options section table one → IsTrueCheck line general options section table other → SayTheSame one other
of_both verdicts numbers comparisons line general options section table (Numbered v) (Numbered w) h k =
    verdicts.one line general options section table v w h.0 k.0
of_both verdicts numbers comparisons line general options section table (Numbered v) (ByPath c) h k =
    absurd (not_numbered c v (numbers.one line general options section table v (ByPath c) h k))
of_both verdicts numbers comparisons line general options section table (ByPath c) (Numbered v) h k =
    absurd (not_numbered c v (numbers.one line general options section table v (ByPath c) k h))
of_both verdicts numbers comparisons line general options section table (ByPath c) (ByPath d) h k =
    one_told tables_by_path comparisons line general options section table (told_paths line general options) c d h.1 k.1

pub one_check : OneVerdict → OneNumbered → OneComparison tables_by_path → OneCheck
one_check verdicts numbers comparisons = record { one = of_both verdicts numbers comparisons }
