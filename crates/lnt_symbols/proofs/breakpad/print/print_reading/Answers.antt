use Rattle.lnt_io.proofs.PrefixLaws.{so_stopped}
use Rattle.lnt_symbols.specs.BreakpadAnswers.{answer_at}
use Rattle.lnt_symbols.specs.Pieces.{all_pieces}
use Rattle.lnt_symbols.specs.Stepping.{name_at}
use Rattle.lnt_symbols.specs.SymbolTables.{answers_in_table, loaded_at}
use Rattle.lnt_symbols.proofs.PieceLemmas.{answers_of}
use Rattle.lnt_symbols.proofs.ReadingLemmas.{taken_names, taken_pieces}
use Rattle.lnt_symbols.proofs.breakpad.print.print_reading.Goals as goal

pub returns-in_err-write_pieces-clause-begun : goal.returns-in_err-write_pieces-clause-begun
returns-in_err-write_pieces-clause-begun g c = λ records h.
    so_stopped c.from_residual.result _
    (c.in_err-write_pieces.ensures.begun (answers_in_table (loaded_at c.args.base (answer_at records)))
    (answers_of (λ n. name_at c.args.reading.names n) c.args.base records (all_pieces c.args.reading.pieces)
    (taken_names c.args.base records c.args.reading h)
    (taken_pieces c.args.base records c.args.reading h)))

pub returns-clause-table : goal.returns-clause-table
returns-clause-table g c = λ records h.
    c.in_ok-write_pieces.ensures.table (answers_in_table (loaded_at c.args.base (answer_at records)))
    (answers_of (λ n. name_at c.args.reading.names n) c.args.base records (all_pieces c.args.reading.pieces)
    (taken_names c.args.base records c.args.reading h)
    (taken_pieces c.args.base records c.args.reading h))
