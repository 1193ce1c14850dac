use Rattle.lnt_io.proofs.PrefixLaws.{prefix_before, so_stopped}
use Rattle.lnt_dump.proofs.Pages.{first_cut, parts_cut, parts_whole, second_cut}
use Rattle.lnt_dump.proofs.dump.print_valid.Goals as goal

pub returns-in_err-print_header-clause-prefix : goal.returns-in_err-print_header-clause-prefix
returns-in_err-print_header-clause-prefix g c =
    let prefix = rw (c.clear.ensures.items, c.header.ensures) at c.in_err-print_header.ensures.prefix in
    so_stopped c.from_residual.result _ (λ ops is. prefix_before _ _ _ _ prefix)

pub returns-in_err-print_ops-clause-prefix : goal.returns-in_err-print_ops-clause-prefix
returns-in_err-print_ops-clause-prefix g c =
    let begun = rw (c.clear.ensures.items, c.header.ensures) at c.in_ok-print_header.ensures.ok in
    so_stopped c.from_residual-in_err-print_ops.result _ (first_cut _ _ _ _ begun c.in_err-print_ops.ensures.prefix)

pub returns-in_err-print_rows-clause-prefix : goal.returns-in_err-print_rows-clause-prefix
returns-in_err-print_rows-clause-prefix g c =
    let begun = rw (c.clear.ensures.items, c.header.ensures) at c.in_ok-print_header.ensures.ok in
    so_stopped c.from_residual-in_err-print_rows.result _
    (second_cut _ _ _ _ begun c.in_ok-print_ops.ensures.ok c.in_err-print_rows.ensures.prefix)

pub returns-clause-whole : goal.returns-clause-whole
returns-clause-whole g c =
    let begun = rw (c.clear.ensures.items, c.header.ensures) at c.in_ok-print_header.ensures.ok in
    parts_whole _ _ _ _ begun c.in_ok-print_ops.ensures.ok c.in_ok-print_rows.ensures.ok c.hand_on.result _ c.hand_on.ensures.whole

pub returns-clause-prefix : goal.returns-clause-prefix
returns-clause-prefix g c =
    let begun = rw (c.clear.ensures.items, c.header.ensures) at c.in_ok-print_header.ensures.ok in
    parts_cut _ _ _ _ begun c.in_ok-print_ops.ensures.ok c.in_ok-print_rows.ensures.ok c.hand_on.result _ c.hand_on.ensures.prefix
