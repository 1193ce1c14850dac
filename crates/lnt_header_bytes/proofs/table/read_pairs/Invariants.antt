use Rattle.std.proofs.Common.{◌≡◌, length}
use Rattle.lnt_header.specs.Joins.{Each}
use Rattle.lnt_wire.specs.Reading.{Reads}
use Rattle.lnt_header_bytes.specs.TableBytes.{PairBytes}
use Rattle.lnt_header_bytes.proofs.table.read_pairs.Given as goal

abbrev pub invariant-loop : goal.invariant-loop
invariant-loop l = (length l.pairs.items ≡ l.counter) × Reads (Each PairBytes) l.pairs.items l.fn.cursor l.cursor
