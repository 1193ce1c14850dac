use Rattle.std.proofs.Common.{rules, subst, IfErr}
use Rattle.lnt_header.specs.Encoding.{RefusedPut}
use Rattle.lnt_header.specs.Parts.{HeaderParts}
use Rattle.lnt_header_bytes.specs.HeaderBytes.{HeaderBytesIn}
use Rattle.lnt_header_bytes.proofs.LargeLemmas.{too_large_refused}
use Rattle.lnt_header_bytes.proofs.encode.put_header_view.Goals as goal

pub returns-clause-err : goal.returns-clause-err
returns-clause-err c =
    subst (λ (h : HeaderParts). IfErr c.put_header.result (RefusedPut (HeaderBytesIn h.numbers.order) (h, c.args.program.now)))
    c.in_place.ensures (search (rules, too_large_refused))
