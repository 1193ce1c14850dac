use Rattle.lnt_header.specs.HeaderTests.{FitsPair}
use Rattle.lnt_header.proofs.TestLemmas.{ZipLeft}
use Rattle.lnt_header.proofs.tested.is_of_format.Given as goal

abbrev pub invariant-loop-pair : goal.invariant-loop-pair
invariant-loop-pair l = ZipLeft FitsPair l.fn.pairs l.fn.entry.values l.pair-iterator.a.rest.now l.pair-iterator.b.rest.now
