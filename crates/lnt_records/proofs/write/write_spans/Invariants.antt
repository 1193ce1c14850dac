use Rattle.std.specs.Prelude.{take}
use Rattle.lnt_records.specs.Written.{plain_by_number}
use Rattle.lnt_records.proofs.LineLaws.{Lines}
use Rattle.lnt_records.proofs.write.write_spans.Given as goal

abbrev pub invariant-loop-span : goal.invariant-loop-span
invariant-loop-span g l =
    Lines plain_by_number l.fn.version (g.W.Write.contents l.initial.out) (g.W.Write.contents l.out) l.block.items
    (take l.span-index l.spans)
