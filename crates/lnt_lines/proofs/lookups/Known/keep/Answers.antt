use Rattle.std.proofs.Common.{subst, sym, All}
use Rattle.lnt_lines.specs.Indexed.{IsCachedOf}
use Rattle.lnt_lines.proofs.LookupLemmas.{known_more}
use Rattle.lnt_lines.proofs.lookups.Known.keep.Goals as goal

pub returns-in_err-push : goal.returns-in_err-push
returns-in_err-push c index is known = subst (All (IsCachedOf index)) (sym c.in_err-push.ensures.items) known

pub returns-in-Some : goal.returns-in-Some
returns-in-Some c index is known =
    known_more index c.args.self.now.sequences.items c.push.new.self.items c.args.cached known is c.in_ok-push.ensures.items

pub returns-in_default : goal.returns-in_default
returns-in_default c index is known =
    known_more index c.args.self.now.sequences.items c.push.new.self.items c.args.cached known is c.in_ok-push.ensures.items
