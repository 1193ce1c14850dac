use Rattle.lnt_ffi.specs.Returns.{IsRefused}
use Rattle.lnt_ffi.proofs.judging.index_of.Goals as goal

pub returns-in-Ok-Bad-clause-refused : goal.returns-in-Ok-Bad-clause-refused
returns-in-Ok-Bad-clause-refused c =
    let strings = c.strings.ensures in
    IsRefused.bad c.in-Ok-Bad.no
    (rw (strings.line, strings.general, c.options.ensures, c.of-source.ensures, c.in-Ok-Bad.field-0-is) at c.in-Ok-Bad.ensures.judged)
    c.verdict_of_no.ensures
