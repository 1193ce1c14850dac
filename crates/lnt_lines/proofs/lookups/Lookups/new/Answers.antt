use Rattle.lnt_lines.proofs.lookups.Lookups.new.Goals as goal

pub invariant_of-result : goal.invariant_of-result
invariant_of-result c = c.in_ok-known.ensures c.args.index.now
