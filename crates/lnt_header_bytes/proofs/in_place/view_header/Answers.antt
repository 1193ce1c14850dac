use Rattle.std.proofs.Common.{◌≡◌, ◌+◌, ◌-◌, length, arith, rules}
use Rattle.std.proofs.lemmas.Result.{err_from_is_err_and}
use Rattle.lnt_header_bytes.proofs.HeaderFrames.{counted_before, refuses_fields, refuses_start, header_found}
use Rattle.lnt_header_bytes.proofs.in_place.view_header.Goals as goal

pub returns-in_err-header-clause-err : goal.returns-in_err-header-clause-err
returns-in_err-header-clause-err c =
    let p = err_from_is_err_and c.from_residual-in_err-header.result c.from_residual-in_err-header.ensures.1 in
    let frame = c.args.frame.now in
    let fault = c.in_err-header.field-0.0 in
    let before = counted_before _ frame.format _ _ c.in_ok-start.start.header.now c.after_version-cursor.result c.read_start.new.cursor
    c.in_ok-start.ensures.ok in
    let placed : c.place.result - length c.in_ok-start.start.header.now + length c.in_ok-start.start.header.now
    ≡ c.read_start.new.cursor.place = omega (arith, c.place.ensures.value, before) in
    rw (p.1, p.2) (λ some. refuses_fields c.args.order frame.format frame.offset frame.body.now c.in_ok-start.start.address_size
    c.in_ok-start.start.selector_size _ c.in_ok-start.start.header.now
    c.after_version-cursor.result c.read_start.new.cursor fault c.requires.is.spelled.fits c.after_version-cursor.ensures
    c.in_ok-start.ensures.ok placed (c.in_err-header.ensures.err some))

pub returns-in_err-start-clause-err : goal.returns-in_err-start-clause-err
returns-in_err-start-clause-err c = search (rules, refuses_start, refuses_fields, header_found)
