use Rattle.std.proofs.lemmas.Result.{IfErr-weaker}
use Rattle.std.proofs.Common.{rules, arith}
use Rattle.std.proofs.lemmas.Grind.{common_steps}
use Rattle.lnt_ops.proofs.ExtendedReaders.{refuses_counted, gives_extended, refuses_length, refuses_cut}
use Rattle.lnt_ops.proofs.extended.read_extended.Goals as goal

pub returns-clause-err : goal.returns-clause-err
returns-clause-err c =
    let header = c.args.numbers.now in
    IfErr-weaker c.read_counted.result _ _
    (λ fault is. refuses_counted header _ _ _ c.in_ok-counted.counted.now c.args.cursor.now c.uleb.new.self c.take.new.self fault
    c.place-length_place.ensures.value c.place-start.ensures.value c.in_ok-length.ensures.ok c.in_ok-counted.ensures.ok is)
    c.read_counted.ensures.err

pub returns-clause-ok : goal.returns-clause-ok
returns-clause-ok c = search (rules, gives_extended, refuses_length, refuses_cut, refuses_counted)

pub returns-in_err-counted-clause-err : goal.returns-in_err-counted-clause-err
returns-in_err-counted-clause-err c = search (rules, gives_extended, refuses_length, refuses_cut, refuses_counted)

pub returns-in_err-length-clause-err : goal.returns-in_err-length-clause-err
returns-in_err-length-clause-err c = search (rules, gives_extended, refuses_length, refuses_cut, refuses_counted)

pub read_counted-requires : goal.read_counted-requires
read_counted-requires c = grind (arith, common_steps)
