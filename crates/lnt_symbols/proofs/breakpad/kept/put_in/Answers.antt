use Rattle.lnt_symbols.proofs.TreeLemmas.{grown}
use Rattle.lnt_symbols.proofs.breakpad.kept.put_in.Goals as goal

pub returns-in-Ok : goal.returns-in-Ok
returns-in-Ok c = λ those h kept.
    grown c.args.tree.now c.insert.new.self those c.args.range c.last_of.result h c.last_of.ensures kept c.in-Ok.ensures.updates
