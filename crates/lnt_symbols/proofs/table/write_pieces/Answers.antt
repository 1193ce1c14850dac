use Rattle.std.proofs.Common.{inr, map}
use Rattle.lnt_symbols.specs.Pieces.{all_pieces, piece_span}
use Rattle.lnt_symbols.proofs.PieceLemmas.{of_instructions, spans_sorted, table_begun, table_told}
use Rattle.lnt_symbols.proofs.table.write_pieces.Goals as goal

pub returns-in-Ok-clause-table : goal.returns-in-Ok-clause-table
returns-in-Ok-clause-table g c = λ answers h.
    table_told (g.P.Paths.bytes_of c.args.paths.now) (all_pieces c.args.pieces) (all_pieces c.put_in_order.new.self) answers
    (g.W.Write.contents c.args.out.now) (g.W.Write.contents c.write_instructions_by_path.new.out) h c.in_default.ensures.permutation
    (c.in-Ok.ensures.table (map piece_span (all_pieces c.put_in_order.new.self)) c.of.ensures
    (spans_sorted (g.P.Paths.bytes_of c.args.paths.now) (all_pieces c.args.pieces) (all_pieces c.put_in_order.new.self) answers h
    c.in_default.ensures.permutation c.in_default.ensures.rising)
    (of_instructions (all_pieces c.put_in_order.new.self)))

pub returns-clause-begun : goal.returns-clause-begun
returns-clause-begun g c = λ answers h.
    inr (table_begun (g.P.Paths.bytes_of c.args.paths.now) (all_pieces c.args.pieces) (all_pieces c.put_in_order.new.self) answers
    (g.W.Write.contents c.args.out.now) (g.W.Write.contents c.write_instructions_by_path.new.out) h c.in_default.ensures.permutation
    (c.in-Err-write_instructions_by_path.ensures.begun (map piece_span (all_pieces c.put_in_order.new.self)) c.of.ensures
    (spans_sorted (g.P.Paths.bytes_of c.args.paths.now) (all_pieces c.args.pieces) (all_pieces c.put_in_order.new.self) answers h
    c.in_default.ensures.permutation c.in_default.ensures.rising)
    (of_instructions (all_pieces c.put_in_order.new.self))))
