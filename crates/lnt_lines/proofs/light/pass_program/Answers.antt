use Rattle.std.proofs.Common.{◌≡◌, ◌∙◌, arith, ap, length, refl, sym, None}
use Rattle.lnt_header.specs.Parts.{HeaderParts}
use Rattle.lnt_machine.proofs.RanLaws.{gives_op}
use Rattle.lnt_lines.specs.Light.{Fits}
use Rattle.lnt_lines.proofs.LightLemmas.{not_open, pass_all, pass_none}
use Rattle.lnt_lines.proofs.light.pass_program.Goals as goal

pub loop-op-init : goal.loop-op-init
loop-op-init c =
    let at = c.ops-ops.ensures in
    let view = c.args.view.now in
    let files : c.count.result ≡ length view.header.files =
    c.count.ensures ∙ ap length (c.files.ensures.entries) ∙ ap (λ (h : HeaderParts). length h.files) c.header.ensures in
    let header = c.new.ensures.header ∙ c.numbers.ensures in (
      header ∙ sym at.header,
      omega (arith, ap length at.rest, ap length c.program.ensures),
      λ dead. pass_none at.header at.going at.place at.rest at.order header c.new.ensures.done c.new.ensures.count refl c.none.ensures
          c.requires,
      record { room = at.is_view.room; length_is = ap length c.program.ensures; files_is = files },
    )

pub loop-op-preserved : goal.loop-op-preserved
loop-op-preserved c =
    let view = c.args.view.now in
    let gives = gives_op c.in-Ok.is c.in-Some.ensures.steps in
    let fits : Fits view c.loop-op.light = c.loop-op.invariant.3 in
    let stepped : Fits view c.step.new.self =
    record { room = fits.room; length_is = c.step.ensures.length ∙ fits.length_is; files_is = c.step.ensures.files ∙ fits.files_is } in (
      c.step_short.ensures.header c.if-not-step_short.false,
      omega (
        arith,
        c.step_short.ensures.no_longer,
        gives.shorter,
        c.loop-op.invariant.1,
        c.step_short.ensures.length,
        c.step.ensures.length,
      ),
      λ dead. c.step_short.ensures.passes c.if-not-step_short.false dead view
          (c.step.ensures.passes c.if-not-step.false dead view c.loop-op.ops c.next_long.new.self (c.loop-op.invariant.2 dead) gives fits
          c.left.ensures) stepped,
      record {
        room = fits.room;
        length_is = c.step_short.ensures.length ∙ stepped.length_is;
        files_is = c.step_short.ensures.files ∙ stepped.files_is;
      },
    )

pub returns-clause-runs : goal.returns-clause-runs
returns-clause-runs c closed dead =
    pass_all c.ops-ops.ensures.is_view (c.loop-op.invariant.2 dead) c.in_default.ensures.steps c.ops-ops.ensures.is_header
    (sym c.is_open.ensures ∙ not_open c.is_open.result closed)

pub returns-clause-few : goal.returns-clause-few
returns-clause-few c closed = (c.loop-op.invariant.2 None).few
