use Rattle.std.proofs.Common.{◌∙◌, sym}
use Rattle.lnt_compare.proofs.path_tables.known.told_of_same.Goals as goal

pub returns-then-other-clause-same : goal.returns-then-other-clause-same
returns-then-other-clause-same g c path told is =
    let other = rw c.if-other.true at c.in-Some.ensures (g.P.Paths.bytes_of c.args.paths.now) path told in
    let differ = rw c.if-branch.false at c.in_ok-same_path.ensures.same in
    differ (other ∙ sym is)
