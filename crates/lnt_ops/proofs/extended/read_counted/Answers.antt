use Rattle.std.proofs.Common.{rules}
use Rattle.lnt_ops.proofs.ExtendedReaders.{counted_reads}
use Rattle.lnt_ops.proofs.extended.read_counted.Goals as goal

pub returns-in-1-clause-ok : goal.returns-in-1-clause-ok
returns-in-1-clause-ok c = search (rules, counted_reads)

pub returns-in_default-clause-ok : goal.returns-in_default-clause-ok
returns-in_default-clause-ok c = search (rules, counted_reads)

pub returns-in_ok-read_address-in-2-clause-ok : goal.returns-in_ok-read_address-in-2-clause-ok
returns-in_ok-read_address-in-2-clause-ok c = search (rules, counted_reads)

pub returns-in_ok-read_number-in-4-clause-ok : goal.returns-in_ok-read_number-in-4-clause-ok
returns-in_ok-read_number-in-4-clause-ok c = search (rules, counted_reads)
