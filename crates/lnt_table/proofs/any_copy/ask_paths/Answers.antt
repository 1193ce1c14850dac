use Rattle.std.proofs.Common.{List, map, subst, sym}
use Rattle.lnt_records.specs.PathSpans.{StandInOrder}
use Rattle.lnt_compare.specs.declared.path_tables.held.HeldSpan.{HeldSpan}
use Rattle.lnt_compare.specs.Held.{held_span}
use Rattle.lnt_table.proofs.AnyCopyLemmas.{paths_read}
use Rattle.lnt_table.proofs.any_copy.ask_paths.Goals as goal

pub ask_held-read-requires : goal.ask_held-read-requires
ask_held-read-requires c = subst (λ (held : List HeldSpan). StandInOrder (map held_span held)) (sym c.deref.ensures.value)
    (rw c.in-Table.is at c.in_ok-fault.ensures.in_order)

pub returns-in_ok-asked-in-Table : goal.returns-in_ok-asked-in-Table
returns-in_ok-asked-in-Table c selection is live =
    paths_read c.args.index.now selection c.args.scope c.args.text.now c.in-Table.version (map held_span c.in-Table.spans.items)
    c.in_ok-asked-in-Table.asked is (rw c.in-Table.is at c.in_ok-fault.ensures.held)
    (rw c.deref.ensures.value at c.in_ok-asked-in-Table.ensures selection is live)
