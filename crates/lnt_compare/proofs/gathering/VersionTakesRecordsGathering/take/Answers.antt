use Rattle.std.proofs.Common.{◌++◌, refl}
use Rattle.csv.specs.Records.{fields_of}
use Rattle.lnt_compare.specs.Comparisons.{tables_by_number}
use Rattle.lnt_compare.proofs.ComparisonLemmas.{order_refused}
use Rattle.lnt_compare.proofs.GatherLemmas.{gathers_more}
use Rattle.lnt_compare.proofs.KindLaws.{number_laws}
use Rattle.lnt_compare.proofs.gathering.VersionTakesRecordsGathering.take.Goals as goal

pub returns-then-not-comes-clause-taken : goal.returns-then-not-comes-clause-taken
returns-then-not-comes-clause-taken c spans records h =
    order_refused tables_by_number number_laws c.args.self.now c.args.gathering.now.at (spans ++ c.args.gathering.now.spans.items) records
    (fields_of c.args.row.now) c.in_ok-span.span h.is_table h.at c.in_ok-span.ensures.ok c.if-not-comes.ensures

pub returns-clause-taken : goal.returns-clause-taken
returns-clause-taken c spans records h =
    gathers_more c.args.self.now c.args.gathering.now _ spans records (fields_of c.args.row.now) c.in_ok-span.span h c.in_ok-span.ensures.ok
    c.if-not-comes.ensures c.in_ok-push.ensures.items refl
