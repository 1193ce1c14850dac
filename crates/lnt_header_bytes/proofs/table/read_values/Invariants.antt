use Rattle.std.proofs.Common.{take}
use Rattle.lnt_wire.specs.Reading.{Reads}
use Rattle.lnt_header_bytes.specs.TableBytes.{ValuesBytes}
use Rattle.lnt_header_bytes.proofs.table.read_values.Given as goal

abbrev pub invariant-loop-pair : goal.invariant-loop-pair
invariant-loop-pair l = Reads (ValuesBytes l.fn.format l.fn.cursor.order (take l.pair-index l.fn.pairs)) l.values.items l.fn.cursor l.cursor
