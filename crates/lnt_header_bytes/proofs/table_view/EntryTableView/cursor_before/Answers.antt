use Rattle.std.proofs.Common.{length, ap, arith}
use Rattle.lnt_header_bytes.specs.Borrowed.{BorrowedTable}
use Rattle.lnt_header_bytes.proofs.table_view.EntryTableView.cursor_before.Goals as goal

pub split_at-requires : goal.split_at-requires
split_at-requires c = (c.in-Some.ensures.begins _ _ c.self.invariant.marks).within

pub returns-clause-there : goal.returns-clause-there
returns-clause-there c =
    let begins = c.in-Some.ensures.begins _ _ c.self.invariant.marks in
    omega (arith, begins.there, ap (λ (t : BorrowedTable). length t.entries) c.self.view_is)
