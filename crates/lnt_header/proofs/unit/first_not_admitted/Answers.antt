use Rattle.std.proofs.Common.{subst, sym, rules}
use Rattle.lnt_header.proofs.FirstLaws.{all_more, first_not}
use Rattle.lnt_header.specs.OpRules.{Admits}
use Rattle.lnt_header.proofs.unit.first_not_admitted.Goals as goal

pub returns-then-not-admits : goal.returns-then-not-admits
returns-then-not-admits c =
    first_not (Admits c.args.header.now.numbers) c.args.ops.now c.loop-index.index c.index-ops-index.result c.loop-index-test.true
    c.loop-index.invariant
    (λ a. let told = c.admits.ensures.1 (subst (Admits c.args.header.now.numbers) (sym c.index-ops-index.is) a) in absurd cc)

pub loop-index-preserved : goal.loop-index-preserved
loop-index-preserved c =
    all_more (Admits c.args.header.now.numbers) c.args.ops.now c.loop-index.index c.index-ops-index.result c.loop-index-test.true
    c.loop-index.invariant (subst (Admits c.args.header.now.numbers) c.index-ops-index.is (c.admits.ensures.0 (search rules)))
