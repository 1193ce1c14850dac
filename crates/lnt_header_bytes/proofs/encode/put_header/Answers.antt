use Rattle.std.proofs.Common.{rules}
use Rattle.lnt_header_bytes.proofs.EncodeLemmas.{header_put}
use Rattle.lnt_header_bytes.proofs.encode.put_header.Goals as goal

pub returns-clause-ok : goal.returns-clause-ok
returns-clause-ok c = rw (← c.header.view_is) (search (rules, header_put))
