use Rattle.std.proofs.Common.{[], append-nil, arith, rules, sym}
use Rattle.std.proofs.lemmas.Result.{err_from_is_err_and}
use Rattle.lnt_unit.proofs.BrokenLaws.{header_broken}
use Rattle.lnt_unit.proofs.ConvertedLemmas.{reported_stop}
use Rattle.lnt_unit.proofs.ReadLaws.{program_within}
use Rattle.lnt_unit.proofs.converting.convert_frame.Goals as goal

pub returns-in_err-header-clause-err : goal.returns-in_err-header-clause-err
returns-in_err-header-clause-err c =
    let p = err_from_is_err_and c.from_residual.result c.from_residual.ensures.1 in
    let frame = c.args.frame.now in
    let fault = c.in_err-header.field-0.0 in
    rw p.1
    (reported_stop c.args.order c.args.format c.args.to frame.offset _ fault p.0
    (λ some. header_broken c.args.order fault frame.offset _ (c.in_err-header.ensures.err some)) p.2)

pub returns-in_err-header-clause-extends : goal.returns-in_err-header-clause-extends
returns-in_err-header-clause-extends c =
    let p = err_from_is_err_and c.from_residual.result c.from_residual.ensures.1 in
    rw p.1 (record { more = []; joined = sym (append-nil c.args.out.now.items) })

pub convert_parts-requires-clause-place : goal.convert_parts-requires-clause-place
convert_parts-requires-clause-place c =
    let header = c.in_ok-header.ensures.ok in
    rw header.order_is (omega (arith, c.requires.end, program_within _ _ _ _ header))

pub overflow_sub-place : goal.overflow_sub-place
overflow_sub-place c = search (rules, program_within)
