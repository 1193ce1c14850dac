use Rattle.std.proofs.Common.{take}
use Rattle.lnt_wire.specs.Bytes.{Appends}
use Rattle.lnt_header.specs.Joins.{Each}
use Rattle.lnt_header_bytes.specs.TableBytes.{PairBytes}
use Rattle.lnt_header_bytes.proofs.encode.add_pairs.Given as goal

abbrev pub invariant-loop-pair : goal.invariant-loop-pair
invariant-loop-pair l = Appends (Each PairBytes) (take l.pair-index l.fn.pairs) l.fn.out.items l.out.items
