use Rattle.std.proofs.lemmas.Result.{IfErr-weaker}
use Rattle.lnt_older.proofs.UnitLemmas.{any_missing}
use Rattle.lnt_older.proofs.unit.read_any_unit.Goals as goal

pub returns-clause-err : goal.returns-clause-err
returns-clause-err c = IfErr-weaker c.any_unit.result _ _
    (λ fault p. any_missing c.in_ok-prefix.prefix c.order-order.result fault c.args.cursor.now c.take_prefix.new.cursor
    c.in_ok-prefix.ensures.ok c.order-order.ensures p) c.any_unit.ensures.err
