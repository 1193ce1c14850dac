use Rattle.std.proofs.Common.{[]}
use Rattle.lnt_compare.proofs.LineLemmas.{line_passed}
use Rattle.lnt_records.proofs.LineLaws.{line_said}
use Rattle.lnt_compare.proofs.line.pass_line.Goals as goal

pub returns : goal.returns
returns c =
    let is = rw c.if-not-tells.false at c.tells.ensures in
    let line = c.line.result.now in
    line_passed c.pass_text.result c.args.version c.args.span.now line c.args.window.now c.pass_text.new.self c.pass_text.ensures
    (line_said c.args.version c.args.span.now line [] (c.line.ensures c.args.version is)) is
