use Rattle.std.proofs.Common.{rules, subst}
use Rattle.lnt_symbols.specs.Stepping.{HasRead, lines_left}
use Rattle.lnt_symbols.proofs.FileLemmas.{follows}
use Rattle.lnt_symbols.proofs.breakpad.file.Reader.read_any.Goals as goal

pub returns-in-Err-clause-stop : goal.returns-in-Err-clause-stop
returns-in-Err-clause-stop c whole more h last =
    c.in-Err.ensures.stop whole (lines_left c.next_line.result.1 more)
    (subst (HasRead whole c.args.self.now)
    (c.next_line.ensures.lines more (follows c.next_line.result.1 more c.args.is_last last (search rules))) h)
