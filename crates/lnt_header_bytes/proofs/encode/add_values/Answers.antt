use Rattle.std.proofs.Common.{rules, arith}
use Rattle.std.proofs.lemmas.Grind.{common_steps}
use Rattle.lnt_wire.specs.FormBytes.{FormBytes}
use Rattle.lnt_header.proofs.PutLaws.{each_done, each_more}
use Rattle.lnt_header_bytes.proofs.LargeLemmas.{value_large}
use Rattle.lnt_header_bytes.proofs.encode.add_values.Goals as goal

pub loop-value-preserved : goal.loop-value-preserved
loop-value-preserved c =
    each_more (FormBytes c.args.format c.args.order) c.args.values.now c.loop-value.value-index c.value-item.result _ _ _
    c.loop-value-test.true c.loop-value.invariant (rw (← c.value-item.is) c.in_ok-put_form.ensures.ok)

pub returns-clause-ok : goal.returns-clause-ok
returns-clause-ok c = search (rules, each_done)

pub returns-in_err-put_form-clause-large : goal.returns-in_err-put_form-clause-large
returns-in_err-put_form-clause-large c = search (rules, value_large)

pub put_form-requires : goal.put_form-requires
put_form-requires c = grind (arith, common_steps)
