use Rattle.std.proofs.Common.{rules}
use Rattle.lnt_header_bytes.proofs.StartReaders.{size_refused, selector_refused, counted_refused, start_read}
use Rattle.lnt_header_bytes.proofs.start.read_start.Goals as goal

pub returns-clause-ok : goal.returns-clause-ok
returns-clause-ok c = search (rules, size_refused, selector_refused, counted_refused, start_read)

pub returns-in_err-header-clause-err : goal.returns-in_err-header-clause-err
returns-in_err-header-clause-err c = search (rules, size_refused, selector_refused, counted_refused, start_read)

pub returns-in_err-selector_size-clause-err : goal.returns-in_err-selector_size-clause-err
returns-in_err-selector_size-clause-err c = search (rules, size_refused, selector_refused, counted_refused, start_read)
