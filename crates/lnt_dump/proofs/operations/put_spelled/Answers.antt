use Rattle.std.proofs.Common.{◌∙◌, ap, arith, length, sym}
use Rattle.std.proofs.lemmas.Bool.{eqb-false, eqb-true}
use Rattle.lnt_dump.proofs.Operands.{left_all, left_more, left_there}
use Rattle.lnt_dump.proofs.operations.put_spelled.Goals as goal

pub unreachable-requires : goal.unreachable-requires
unreachable-requires c =
    left_there c.args.bytes.now c.loop-cursor.cursor.rest c.args.text.now.items c.loop-cursor.text.items c.loop-cursor.invariant c.requires
    (omega (arith, eqb-false _ _ (sym c.is_empty.ensures ∙ c.loop-cursor-test.true), ap length c.rest.ensures))
    c.in_default.ensures.err.none

pub loop-cursor-preserved : goal.loop-cursor-preserved
loop-cursor-preserved c =
    left_more c.args.bytes.now _ _ _ c.args.text.now.items _ _ c.loop-cursor.invariant c.in-Ok.ensures.ok c.in_ok-put_named.ensures

pub returns : goal.returns
returns c =
    left_all c.args.bytes.now c.loop-cursor.cursor.rest c.args.text.now.items c.loop-cursor.text.items c.loop-cursor.invariant
    (omega (arith, eqb-true _ _ (sym c.is_empty.ensures ∙ c.loop-cursor-test.false), ap length c.rest.ensures))
