use Rattle.std.proofs.Common.{◌≢◌, refl, subst}
use Rattle.std.proofs.lemmas.Result.{err_from_is_err_and}
use Rattle.lnt_wire.specs.Bytes.{Appends}
use Rattle.lnt_header.specs.declared.numbers.NumberParts.{NumberParts}
use Rattle.lnt_header.specs.Conversion.{in_format}
use Rattle.lnt_header.specs.Encoding.{RefusedPut}
use Rattle.lnt_header_bytes.specs.HeaderBytes.{HeaderBytesIn}
use Rattle.lnt_header.specs.Parts.{HeaderParts}
use Rattle.lnt_wire.specs.FrameBytes.{frame_bytes}
use Rattle.lnt_wire.specs.declared.fault.Reason.TheVariants.{Memory}
use Rattle.lnt_ops.specs.Programs.{BrokenProgram}
use Rattle.lnt_unit.specs.BrokenUnits.{BrokenUnit}
use Rattle.lnt_unit.proofs.BrokenLaws.{ops_broken}
use Rattle.lnt_unit.proofs.ConvertedLemmas.{frame_converted, frame_large, reported_stop}
use Rattle.lnt_unit.proofs.converting.convert_parts.Goals as goal

pub returns-in_err-convert_ops-clause-err : goal.returns-in_err-convert_ops-clause-err
returns-in_err-convert_ops-clause-err c =
    let p = err_from_is_err_and c.from_residual.result c.from_residual.ensures.1 in
    let frame = c.args.frame.now in
    let header = c.args.header.now in
    let program = c.args.program.now in
    let fault = c.in_err-convert_ops.field-0.0 in
    let bytes = frame_bytes header.numbers.order frame.format frame.body.now in
    let broken : fault.reason ≢ Memory → BrokenUnit header.numbers.order fault frame.offset bytes =
    λ some. ops_broken header.numbers.order header program bytes fault frame.offset _ c.requires.spelled c.requires.place
    (subst (λ (g : NumberParts). BrokenProgram g c.args.place program fault) c.numbers.ensures.numbers
    (c.in_err-convert_ops.ensures.err some)) in
    rw p.1 (reported_stop header.numbers.order c.args.format c.args.to frame.offset bytes fault p.0 broken p.2)

pub returns-in-Ok-clause-ok : goal.returns-in-Ok-clause-ok
returns-in-Ok-clause-ok c =
    let header = c.args.header.now in
    let put = subst (λ (h : HeaderParts). Appends (HeaderBytesIn c.args.to) (in_format h c.args.format c.args.to, c.deref.result.now)
    c.args.out.now.items c.put_header_view.new.out.items) c.view.ensures c.in-Ok.ensures.ok in
    frame_converted header.numbers.order header c.numbers.result.now c.args.program.now _ c.new-converted.result.items _
    c.deref.result.now _ _ c.args.format c.args.to
    c.requires.spelled c.numbers.ensures.numbers c.in_ok-convert_ops.ensures.ok c.new-converted.ensures.items c.deref.ensures.value put

pub returns-in-Err-TooLarge-clause-err : goal.returns-in-Err-TooLarge-clause-err
returns-in-Err-TooLarge-clause-err c =
    let header = c.args.header.now in
    let refused = subst (λ (h : HeaderParts). RefusedPut (HeaderBytesIn c.args.to) (in_format h c.args.format c.args.to, c.deref.result.now)
    c.in-Err-TooLarge.field-0)
    c.view.ensures c.in-Err-TooLarge.ensures.err in (
      refl,
      frame_large header.numbers.order header c.numbers.result.now c.args.program.now _ c.new-converted.result.items _ c.deref.result.now
          c.args.format c.args.to _
          c.requires.spelled c.numbers.ensures.numbers c.in_ok-convert_ops.ensures.ok c.new-converted.ensures.items
          c.deref.ensures.value refused
          c.in-Err-TooLarge.field-0-is,
    )
