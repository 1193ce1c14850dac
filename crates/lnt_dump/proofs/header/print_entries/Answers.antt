use Rattle.std.proofs.Common.{rules}
use Rattle.lnt_io.proofs.PrefixLaws.{so_stopped}
use Rattle.lnt_dump.proofs.Entries.{all_told, at_first, at_next, is_there, line_cut, lines_stay}
use Rattle.lnt_dump.proofs.header.print_entries.Goals as goal

pub loop-index-init : goal.loop-index-init
loop-index-init g c = search (rules, at_first)

pub loop-index-preserved : goal.loop-index-preserved
loop-index-preserved g c =
    at_next c.format-format.ensures c.pairs-pairs.ensures c.loop-index.invariant (search rules) c.in_ok-put_line.ensures.ok
    c.in_ok-turn_full.ensures.ok

pub put_line-requires : goal.put_line-requires
put_line-requires g c =
    λ none. is_there c.format-format.ensures c.pairs-pairs.ensures c.loop-index.invariant (search rules) none

pub returns-in_err-put_line-clause-prefix : goal.returns-in_err-put_line-clause-prefix
returns-in_err-put_line-clause-prefix g c =
    so_stopped c.from_residual.result _
    (lines_stay c.loop-index.invariant)

pub returns-in_err-turn_full-clause-prefix : goal.returns-in_err-turn_full-clause-prefix
returns-in_err-turn_full-clause-prefix g c =
    so_stopped c.from_residual-in_err-turn_full.result _
    (line_cut c.format-format.ensures c.pairs-pairs.ensures c.loop-index.invariant (search rules) c.in_ok-put_line.ensures.ok
    c.in_err-turn_full.ensures.prefix)

pub returns-clause-ok : goal.returns-clause-ok
returns-clause-ok g c = search (rules, all_told)
