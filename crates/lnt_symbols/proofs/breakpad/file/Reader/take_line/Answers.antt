use Rattle.lnt_symbols.proofs.breakpad.file.Reader.take_line.Goals as goal

pub returns-in-Ok-clause-read : goal.returns-in-Ok-clause-read
returns-in-Ok-clause-read c whole lines h = c.take.ensures.read whole c.args.line.now lines c.in-Ok.ensures h

pub returns-in-Ok-clause-stop : goal.returns-in-Ok-clause-stop
returns-in-Ok-clause-stop c whole lines h = c.take.ensures.stop whole c.args.line.now lines c.in-Ok.ensures h
