use Rattle.lnt_ffi.specs.Returns.{ReturnsVerdictByPath}
use Rattle.lnt_ffi.proofs.checking.check_into.Goals as goal

pub returns-in-Ok-clause-returned : goal.returns-in-Ok-clause-returned
returns-in-Ok-clause-returned c =
    let strings = c.strings.ensures in
    ReturnsVerdictByPath.judged c.in-Ok.found
    (rw (strings.line, strings.general, c.options.ensures, c.of-line.ensures, c.of-text.ensures) at c.in-Ok.ensures.checked)
    c.put_found.ensures.verdict c.put_found.ensures.by_table c.put_found.ensures.by_section
