use Rattle.lnt_records.proofs.NumberLaws.{numbered}
use Rattle.lnt_records.proofs.PathLaws.{pathed}
use Rattle.lnt_compare.specs.Comparisons.{tables_by_number}
use Rattle.lnt_compare.specs.Outcomes.{tables_by_path}
use Rattle.lnt_compare.proofs.ComparedLaws.{one_comparison}
use Rattle.lnt_compare.proofs.laws.one_comparison.Goals as goal

pub returns-clause-by_number : goal.returns-clause-by_number
returns-clause-by_number c = one_comparison tables_by_number numbered

pub returns-clause-by_path : goal.returns-clause-by_path
returns-clause-by_path c = one_comparison tables_by_path pathed
