use Rattle.std.proofs.lemmas.Result.{err_from_is_err_and}
use Rattle.lnt_older.proofs.UpgradeLemmas.{unit_added, unit_too_long}
use Rattle.lnt_older.proofs.upgrade.append_upgraded_unit.Goals as goal

pub returns-in_err-add_around-clause-err : goal.returns-in_err-add_around-clause-err
returns-in_err-add_around-clause-err c =
    let p = err_from_is_err_and c.from_residual-in_err-add_around.result c.from_residual-in_err-add_around.ensures.1 in
    rw (p.1, p.2) (unit_too_long c.args.unit.now c.args.address_size c.args.directory.now c.in_ok-fields.fields.items c.deref.result.now
    c.in_err-add_around.field-0.0 c.requires.size c.requires.unit c.in_ok-fields.ensures c.deref.ensures.value
    c.in_err-add_around.ensures.err)

pub returns-clause-ok : goal.returns-clause-ok
returns-clause-ok c = unit_added c.args.unit.now c.args.address_size c.args.directory.now c.in_ok-fields.fields.items c.deref.result.now
    c.args.out.now.items c.add_around.new.out.items c.requires.size c.in_ok-fields.ensures c.deref.ensures.value
    c.in_ok-add_around.ensures.ok
