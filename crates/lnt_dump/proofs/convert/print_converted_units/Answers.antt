use Rattle.std.proofs.Common.{◌∙◌, sym, ap, arith, length}
use Rattle.std.proofs.lemmas.Bool.{eqb-false, eqb-true}
use Rattle.lnt_io.proofs.PrefixLaws.{so_stopped}
use Rattle.lnt_dump.proofs.PagedWalks.{walk_cut, walk_last_cut, walk_printed, walk_stopped, walk_turned}
use Rattle.lnt_dump.proofs.Sections.{section_stops, section_walk}
use Rattle.lnt_dump.proofs.convert.print_converted_units.Goals as goal

pub loop-cursor-preserved : goal.loop-cursor-preserved
loop-cursor-preserved g c =
    walk_turned (section_walk _ _ _ _) c.loop-cursor.invariant c.in-Ok.ensures.ok c.in_ok-turn_full.ensures.ok

pub returns-in-Memory-clause-prefix : goal.returns-in-Memory-clause-prefix
returns-in-Memory-clause-prefix g c = walk_stopped (section_walk _ _ _ _) c.loop-cursor.invariant

pub returns-in_err-turn_full-clause-prefix : goal.returns-in_err-turn_full-clause-prefix
returns-in_err-turn_full-clause-prefix g c =
    so_stopped c.from_residual.result _
    (walk_cut (section_walk _ _ _ _) c.loop-cursor.invariant c.in-Ok.ensures.ok c.in_err-turn_full.ensures.prefix)

pub returns-in_err-hand_on-clause-prefix : goal.returns-in_err-hand_on-clause-prefix
returns-in_err-hand_on-clause-prefix g c =
    so_stopped c.from_residual-in_err-hand_on.result _
    (walk_last_cut (section_walk _ _ _ _) c.loop-cursor.invariant c.in_err-hand_on.ensures.prefix)

pub returns-clause-ok : goal.returns-clause-ok
returns-clause-ok g c =
    walk_printed (section_walk _ _ _ _) (g.W.Write.contents c.hand_on.new.out) c.loop-cursor.invariant
    (omega (arith, eqb-true _ _ (sym c.is_empty.ensures ∙ c.loop-cursor-test.false), ap length c.rest.ensures))
    c.in_ok-hand_on.ensures.whole

pub unreachable-requires : goal.unreachable-requires
unreachable-requires g c =
    c.in_default.not-Memory (section_stops _ _ _ _ c.loop-cursor.cursor _ _ _ c.in-Err.stop c.requires c.loop-cursor.invariant
    (omega (arith, eqb-false _ _ (sym c.is_empty.ensures ∙ c.loop-cursor-test.true), ap length c.rest.ensures)) c.in-Err.ensures.err)
