use Rattle.std.proofs.Common.{◌++◌, subst}
use Rattle.lnt_symbols.specs.BreakpadLines.{lines_of}
use Rattle.lnt_symbols.specs.Stepping.{HasRead}
use Rattle.lnt_symbols.proofs.breakpad.file.Reader.read_line.Goals as goal

pub returns-in-Err-clause-stop : goal.returns-in-Err-clause-stop
returns-in-Err-clause-stop c whole more h last =
    let first = c.in-Some.ensures.says more in
    c.in-Err.ensures.stop whole first.line (lines_of (c.in-Some.rest.now ++ more)) first.says
    (subst (HasRead whole c.args.self.now) first.joined h)
