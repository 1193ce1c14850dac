use Rattle.std.proofs.Common.{◌≡◌, ◌∷◌, ◌++◌, [], arith}
use Rattle.std.proofs.lemmas.Grind.{common_steps}
use Rattle.std.proofs.lemmas.Result.{err_from_is_err_and}
use Rattle.lnt_header_bytes.proofs.TableReaders.{refuses_values_at}
use Rattle.lnt_header_bytes.proofs.ValueLaws.{values_next}
use Rattle.lnt_header_bytes.proofs.table.read_values.Goals as goal

pub returns-in_err-form-clause-err : goal.returns-in_err-form-clause-err
returns-in_err-form-clause-err c =
    let p = err_from_is_err_and c.from_residual.result c.from_residual.ensures.1 in
    rw (p.1, p.2) (λ some. refuses_values_at c.args.format c.args.pairs.now c.loop-pair.pair-index _ c.loop-pair.values.items
    c.args.cursor.now c.loop-pair.cursor c.in_err-form.field-0.0 c.loop-pair-test.true c.loop-pair.invariant
    (c.in_err-form.ensures.err some))

pub loop-pair-preserved : goal.loop-pair-preserved
loop-pair-preserved c =
    let value = c.in_ok-form.field-0 in
    let items : c.push.new.self.items ≡ c.loop-pair.values.items ++ value ∷ [] = grind (arith, common_steps) in
    rw items (values_next c.args.format c.args.pairs.now c.loop-pair.pair-index _ c.loop-pair.values.items value c.args.cursor.now
    c.loop-pair.cursor c.form.new.self c.loop-pair-test.true c.loop-pair.invariant c.in_ok-form.ensures.ok)

pub returns-clause-ok : goal.returns-clause-ok
returns-clause-ok c = grind (arith, common_steps)
