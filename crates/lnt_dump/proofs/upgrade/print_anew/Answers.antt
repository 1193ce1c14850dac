use Rattle.std.proofs.Common.{◌∙◌, sym, ap, arith, length, eqb-true}
use Rattle.lnt_io.proofs.PrefixLaws.{so_stopped}
use Rattle.lnt_dump.proofs.Anew.{anew_walk}
use Rattle.lnt_dump.proofs.PagedWalks.{walk_cut, walk_last_cut, walk_printed, walk_stopped, walk_turned}
use Rattle.lnt_dump.proofs.upgrade.print_anew.Goals as goal

pub loop-cursor-preserved : goal.loop-cursor-preserved
loop-cursor-preserved g c =
    walk_turned (anew_walk _ _ _ _) c.loop-cursor.invariant c.in_ok-upgrade_next.ensures.ok c.in_ok-turn_full.ensures.ok

pub returns-in_err-upgrade_next-clause-prefix : goal.returns-in_err-upgrade_next-clause-prefix
returns-in_err-upgrade_next-clause-prefix g c =
    so_stopped c.from_residual.result _ (walk_stopped (anew_walk _ _ _ _) c.loop-cursor.invariant)

pub returns-in_err-turn_full-clause-prefix : goal.returns-in_err-turn_full-clause-prefix
returns-in_err-turn_full-clause-prefix g c =
    so_stopped c.from_residual-in_err-turn_full.result _
    (walk_cut (anew_walk _ _ _ _) c.loop-cursor.invariant c.in_ok-upgrade_next.ensures.ok c.in_err-turn_full.ensures.prefix)

pub returns-in_err-hand_on-clause-prefix : goal.returns-in_err-hand_on-clause-prefix
returns-in_err-hand_on-clause-prefix g c =
    so_stopped c.from_residual-in_err-hand_on.result _
    (walk_last_cut (anew_walk _ _ _ _) c.loop-cursor.invariant c.in_err-hand_on.ensures.prefix)

pub returns-clause-whole : goal.returns-clause-whole
returns-clause-whole g c =
    walk_printed (anew_walk _ _ _ _) (g.W.Write.contents c.hand_on.new.out) c.loop-cursor.invariant
    (omega (arith, eqb-true _ _ (sym c.is_empty.ensures ∙ c.loop-cursor-test.false), ap length c.rest.ensures))
    c.in_ok-hand_on.ensures.whole
