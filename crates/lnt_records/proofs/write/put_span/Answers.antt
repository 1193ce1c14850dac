use Rattle.std.proofs.lemmas.Result.{on_ok_weaker}
use Rattle.lnt_records.proofs.WriteLaws.{line_put, on_added}
use Rattle.lnt_records.proofs.write.put_span.Goals as goal

pub returns : goal.returns
returns c version is =
    on_ok_weaker c.extend_from_slice.result
    (λ added. line_put version c.args.span.now _ _ _ added (c.line.ensures version is))
    (on_added c.extend_from_slice.result _ _ _ c.extend_from_slice.ensures.items)
