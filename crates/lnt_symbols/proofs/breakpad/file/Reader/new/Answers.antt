use Rattle.std.proofs.Common.{refl}
use Rattle.lnt_symbols.proofs.ReadingLemmas.{read_none}
use Rattle.lnt_symbols.proofs.breakpad.file.Reader.new.Goals as goal

pub returns-clause-read : goal.returns-clause-read
returns-clause-read c whole = read_none whole _ refl (c.new.ensures c.args.base)
