use Rattle.std.proofs.Common.{arith}
use Rattle.std.proofs.lemmas.Grind.{common_steps}
use Rattle.std.proofs.lemmas.Result.{err_from_is_err_and}
use Rattle.lnt_older.specs.OlderBytes.{BeginsEntry}
use Rattle.lnt_older.proofs.ListFaultLemmas.{entry_missing, end_missing}
use Rattle.lnt_older.proofs.ListLemmas.{list_ended}
use Rattle.lnt_older.proofs.lists.pass_listed.Goals as goal

pub returns-clause-ok : goal.returns-clause-ok
returns-clause-ok c =
    let old = c.args.cursor.now in
    let middle = c.loop-format.cursor in
    let new = c.u8.new.self in
    let none : BeginsEntry middle.rest → ⊥ =
    λ begins. grind (arith, common_steps, begins, c.is_listed.ensures.1 begins, c.loop-format-test.false) in
    list_ended c.args.format c.args.pairs.now c.loop-format.count c.in_ok-u8.field-0 c.split_at.result.0.now
    c.rest-all.result.now c.rest.result.now old middle new c.loop-format.invariant none c.in_ok-u8.ensures.ok
    c.rest-all.ensures c.rest.ensures c.split_at.ensures.front

pub returns-in_err-read_entry-clause-err : goal.returns-in_err-read_entry-clause-err
returns-in_err-read_entry-clause-err c =
    let p = err_from_is_err_and c.from_residual.result c.from_residual.ensures.1 in
    let pairs = c.args.pairs.now in
    let old = c.args.cursor.now in
    let fault = c.in_err-read_entry.field-0.0 in
    let begins : BeginsEntry c.loop-format.cursor.rest = grind (arith, common_steps, c.is_listed.ensures, c.loop-format-test.true) in
    rw (p.1, p.2) (entry_missing c.args.format pairs c.loop-format.count old c.loop-format.cursor fault c.loop-format.invariant begins
    c.in_err-read_entry.ensures.err)

pub returns-in_err-u8-clause-err : goal.returns-in_err-u8-clause-err
returns-in_err-u8-clause-err c =
    let p = err_from_is_err_and c.from_residual-in_err-u8.result c.from_residual-in_err-u8.ensures.1 in
    let pairs = c.args.pairs.now in
    let old = c.args.cursor.now in
    let fault = c.in_err-u8.field-0.0 in
    rw (p.1, p.2) (end_missing c.args.format pairs c.loop-format.count old c.loop-format.cursor fault c.loop-format.invariant
    c.in_err-u8.ensures.err)
