use Rattle.std.proofs.Common.{refl, rules}
use Rattle.lnt_symbols.specs.Stepping.{said_of}
use Rattle.lnt_symbols.proofs.ReadingLemmas.{read_said}
use Rattle.lnt_symbols.proofs.breakpad.file.Reader.take.Goals as goal

pub returns-in-Ok-clause-read : goal.returns-in-Ok-clause-read
returns-in-Ok-clause-read c whole line lines says h =
    read_said whole line lines c.args.self.now h (said_of c.args.said)
    (record { base = c.args.self.now.base; reading = c.take.new.self; number = c.in-Some.number; inside = c.is_inside-self.result })
    c.requires says (search rules) (search rules) c.is_inside-self.ensures refl c.in-Ok.ensures
