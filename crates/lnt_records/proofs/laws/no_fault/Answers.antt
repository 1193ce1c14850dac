use Rattle.lnt_records.specs.PathTables.{by_path}
use Rattle.lnt_records.specs.Table.{by_number}
use Rattle.lnt_records.proofs.NumberLaws.{numbered}
use Rattle.lnt_records.proofs.PathLaws.{pathed}
use Rattle.lnt_records.proofs.TableLaws.{no_fault}
use Rattle.lnt_records.proofs.laws.no_fault.Goals as goal

pub returns-clause-by_number : goal.returns-clause-by_number
returns-clause-by_number c = no_fault by_number numbered

pub returns-clause-by_path : goal.returns-clause-by_path
returns-clause-by_path c = no_fault by_path pathed
