use Rattle.std.proofs.lemmas.Result.{on_err_weaker, on_ok_weaker}
use Rattle.lnt_writing.proofs.JoinedLemmas.{canonical_begun, canonical_written}
use Rattle.lnt_writing.proofs.canonical.write_canonical.Goals as goal

pub returns-clause-table : goal.returns-clause-table
returns-clause-table g c =
    let known = c.requires in
    on_ok_weaker c.write_lines.result
    (λ lines. canonical_written c.args.version known.0 lines.0 _ _ (g.S.SpanSource.to_come c.args.spans) known.1
    (record { order = known.2; tells = known.3 }) lines.1 lines.2)
    c.write_lines.ensures.lines

pub returns-clause-begun : goal.returns-clause-begun
returns-clause-begun g c =
    let known = c.requires in
    on_err_weaker c.write_lines.result
    (λ lines. canonical_begun c.args.version known.0 lines.0 _ _ (g.S.SpanSource.to_come c.args.spans) known.1
    (record { order = known.2; tells = known.3 }) lines.1 lines.2)
    c.write_lines.ensures.begun
