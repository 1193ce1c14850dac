use Rattle.std.proofs.Common.{rules}
use Rattle.lnt_symbols.proofs.KeptLemmas.{kept_rising}
use Rattle.lnt_symbols.proofs.breakpad.kept.KeptRanges.keep.Goals as goal

pub returns-clause-said : goal.returns-clause-said
returns-clause-said c = λ those h. (kept_rising c.args.self.now.rising.items c.push.new.self.items those c.args.self.now.last
    c.args.self.now.tree c.last_of.result c.args.range c.in_ok-push.ensures.items c.in_default.is h (c.is_above.ensures (search rules))
    (search rules) c.last_of.ensures).0

pub returns-clause-kept : goal.returns-clause-kept
returns-clause-kept c = λ those h. (kept_rising c.args.self.now.rising.items c.push.new.self.items those c.args.self.now.last
    c.args.self.now.tree c.last_of.result c.args.range c.in_ok-push.ensures.items c.in_default.is h (c.is_above.ensures (search rules))
    (search rules) c.last_of.ensures).1
