use Rattle.lnt_symbols.proofs.PlainLemmas.{plain_is_first}
use Rattle.lnt_symbols.proofs.breakpad.plain.plain_line.Goals as goal

pub returns : goal.returns
returns c = plain_is_first c.args.bytes.now c.in_ok-address.rest.now c.in_ok-size.rest.now c.in_ok-line.rest.now c.in_ok-file.rest.now
    c.in_ok-address.address c.in_ok-size.size c.in_ok-line.line c.in_ok-file.file
    c.in_ok-address.ensures c.in_ok-size.ensures c.in_ok-line.ensures c.in_ok-file.ensures
