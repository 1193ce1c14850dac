use Rattle.std.proofs.Common.{rules}
use Rattle.lnt_header_bytes.proofs.StartReaders.{reads_counted, refuses_length, refuses_counted}
use Rattle.lnt_header_bytes.proofs.start.read_counted.Goals as goal

pub returns-clause-ok : goal.returns-clause-ok
returns-clause-ok c = search (rules, reads_counted, refuses_length, refuses_counted)
