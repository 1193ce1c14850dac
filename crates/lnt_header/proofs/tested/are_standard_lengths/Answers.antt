use Rattle.std.specs.Cmp.Lexicographic.{told_text}
use Rattle.lnt_header.proofs.TestLemmas.{standard_lengths}
use Rattle.lnt_header.proofs.tested.are_standard_lengths.Goals as goal

pub returns-clause-known : goal.returns-clause-known
returns-clause-known c =
    standard_lengths c.args.lengths.now c.min-known.result c.eq.result c.min-known.ensures (told_text _ _ c.eq.result c.eq.ensures)
