use Rattle.std.proofs.Common.{◌∙◌, [], refl}
use Rattle.lnt_symbols.proofs.SourceLemmas.{taken_all, with_none}
use Rattle.lnt_symbols.proofs.breakpad.source.read_bytes.Goals as goal

pub returns-in-Ok-clause-ok : goal.returns-in-Ok-clause-ok
returns-in-Ok-clause-ok c =
    let bytes = c.args.bytes.now in
    taken_all c.args.base bytes c.read.new.self (c.in-Ok.ensures.base ∙ c.new-reader.ensures.base) (c.in-Ok.ensures.counts refl)
    (c.in-Ok.ensures.read bytes [] (with_none bytes bytes c.new-reader.result (c.new-reader.ensures.read bytes)) (λ t. refl))

pub returns-in-Err-clause-err : goal.returns-in-Err-clause-err
returns-in-Err-clause-err c =
    let bytes = c.args.bytes.now in
    c.in-Err.ensures.stop bytes [] (with_none bytes bytes c.new-reader.result (c.new-reader.ensures.read bytes)) (λ t. refl)
