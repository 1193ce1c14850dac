use Rattle.std.proofs.Common.{inl, inr, rules}
use Rattle.std.proofs.lemmas.Result.{err_from_is_err_and}
use Rattle.lnt_header_bytes.proofs.EncodeLemmas.{fields_put}
use Rattle.lnt_header_bytes.proofs.LargeLemmas.{memory_not_large}
use Rattle.lnt_header_bytes.proofs.encode.add_fields.Goals as goal

pub returns-in_err-add_table-clause-large : goal.returns-in_err-add_table-clause-large
returns-in_err-add_table-clause-large c =
    let p = err_from_is_err_and c.from_residual-in_err-add_table.result c.from_residual-in_err-add_table.ensures.1 in
    rw (p.1, p.2, ← c.header.view_is) (record { is_so = λ e. inl (c.in_err-add_table.ensures.large.is_so e) })

pub returns-in_err-add_table-2-clause-large : goal.returns-in_err-add_table-2-clause-large
returns-in_err-add_table-2-clause-large c =
    let p = err_from_is_err_and c.from_residual-in_err-add_table-2.result c.from_residual-in_err-add_table-2.ensures.1 in
    rw (p.1, p.2, ← c.header.view_is) (record { is_so = λ e. inr (c.in_err-add_table-2.ensures.large.is_so e) })

pub returns-clause-ok : goal.returns-clause-ok
returns-clause-ok c =
    rw (← c.header.view_is) (fields_put _ c.args.out.now.items c.add_numbers.new.out.items c.add_table.new.out.items
    c.add_table-2.new.out.items c.extend_from_slice.new.self.items c.header.invariant c.requires c.in_ok-add_numbers.ensures
    c.in_ok-add_table.ensures.ok c.in_ok-add_table-2.ensures.ok c.in_ok-extend_from_slice.ensures.items)

pub returns-in_err-add_numbers-clause-large : goal.returns-in_err-add_numbers-clause-large
returns-in_err-add_numbers-clause-large c = search (rules, memory_not_large)

pub returns-in_err-extend_from_slice-clause-large : goal.returns-in_err-extend_from_slice-clause-large
returns-in_err-extend_from_slice-clause-large c = search (rules, memory_not_large)
