use Rattle.lnt_compare.proofs.PathStretchLemmas.{path_begun}
use Rattle.lnt_compare.proofs.path_tables.path_differences.DifferencesByPath.of.Goals as goal

pub returns : goal.returns
returns g c path list by_section coming order same stand =
    path_begun g.S.SpanSource.to_come c.args.section (record { spans = c.args.table }) c.args.version c.whole.result c.past.result path list
    by_section c.past.ensures c.whole.ensures coming order same stand
